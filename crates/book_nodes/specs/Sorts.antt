-- The numbers of the operand sorts, and which functions nodes may name.
use Rattle.std.specs.Prelude.{Bool, ◌&&◌, ℕ, eqb, ltb, length}
use Rattle.book.specs.Book.{Program, function_at}
use Rattle.book.specs.Kinds.{unused, permanent, variable, function0, function1, function2, universe, dynamic_universe, term, rule, target_sort}
use Rattle.book_nodes.specs.declared.Sort.{Sort}
use Rattle.book_nodes.specs.declared.Sort.TheVariants.{NoKind, Unused, Permanent, Variable, Function0, Function1, Function2, Universe, DynamicUniverse, Term, Rule, LocationTerm}

-- the number of a sort, by the code's name for it
abbrev pub sort_number : Sort → ℕ
sort_number NoKind = 0
sort_number Unused = unused
sort_number Permanent = permanent
sort_number Variable = variable
sort_number Function0 = function0
sort_number Function1 = function1
sort_number Function2 = function2
sort_number Universe = universe
sort_number DynamicUniverse = dynamic_universe
sort_number Term = term
sort_number Rule = rule
sort_number LocationTerm = target_sort

-- x is a function of that arity that nodes may name: any but Reserve
abbrev pub is_named : Program → ℕ → ℕ → Bool
is_named B x arity = ltb 0 x && ltb x (length B.functions) && eqb (function_at B x).arity arity
