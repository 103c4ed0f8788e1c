-- A node of an image as the engine holds it.
use Rattle.book.specs.declared.Node.{Node}
use Rattle.book_parts.specs.declared.StoredNode.{StoredNode}

-- the node that the code holds in sixteen bits
abbrev pub stored_node : StoredNode → Node
stored_node r = record { kind = r.kind; a = r.a; b = r.b; c = r.c }
