-- What loading a text puts into an image: the header's two rows, then line after line; and the functions laid out.
use Rattle.std.specs.Prelude.{Option, None, Some}
use Rattle.std.specs.Prelude.{◌≡◌, List, ℕ, zero, suc, ◌+◌, ◌-◌, ◌<◌, ltb, if◌then◌else◌}
use Rattle.text.specs.declared.Line.{Line}
use Rattle.text.specs.Words.{least_from}
use Rattle.text.specs.Text.{line, bad_line}
use Rattle.book.specs.declared.Header.{Header}
use Rattle.book.specs.Lines.{first_function, first_node, first_agent, first_entry, node_of}
use Rattle.book.specs.Image.{word, image_row, node_in, capped, kept_node, stored, node_stored, filled, first_location, laid_row}

-- image m with line i, which says l, put where it belongs: functions and agents in rows, nodes after them
abbrev pub line_loaded : Header → ℕ → Line → List ℕ → List ℕ
line_loaded h i l m =
    if ltb i (first_node h) then stored i l m
    else if ltb i (first_agent h) then node_stored (i - first_node h) (node_of l) m
    else stored (34 + (i - first_agent h)) l m

-- row 0: E, P, F and N
abbrev pub head_row : Header → Line
head_row h = record { a = h.elements; b = h.permanent; c = h.functions; d = h.nodes }

-- row 1: A, C and L
abbrev pub tail_row : ℕ → ℕ → ℕ → Line
tail_row agents contents locations = record { a = agents; b = contents; c = locations; d = 0 }

-- image m with the header's rows, in which L is not known yet
unfoldable pub header_loaded : Header → List ℕ → List ℕ
header_loaded h m = stored 1 (tail_row h.agents h.contents 0) (stored 0 (head_row h) m)

-- image m with the k lines after the header put where they belong
unfoldable pub lines_loaded : Header → List ℕ → ℕ → List ℕ → List ℕ
lines_loaded h text zero m = m
lines_loaded h text (suc k) m = line_loaded h (first_function + k) (line text (first_function + k)) (lines_loaded h text k m)

-- how many places from `first` up to `end` come before the one found
abbrev pub lines_before : ℕ → ℕ → Option ℕ → ℕ
lines_before first end None = end - first
lines_before first end (Some p) = p - first

-- image m with the functions' first locations and strides in their rows, and L in the header's second row
unfoldable pub functions_laid : List ℕ → List ℕ
functions_laid m =
    let at : ℕ → Line = λ f. image_row m (first_function + f) in
    let E = capped (word m 0) 10000 in
    let F = capped (word m 2) 32 in
    stored 1 (tail_row (word m 4) (word m 5) (first_location at E F)) (filled (laid_row at E) first_function F 0 m)

-- the rows of m hold the lines of a text with the header h, before the functions are laid out
pub record HoldsLines (m : List ℕ) (h : Header) (text : List ℕ) : Type 0 where
  pub head : image_row m 0 ≡ head_row h
  pub tail : image_row m 1 ≡ tail_row h.agents h.contents 0
  pub function : (f : ℕ) → f < h.functions → image_row m (2 + f) ≡ line text (first_function + f)
  pub node : (n : ℕ) → n < h.nodes → node_in m n ≡ kept_node (node_of (line text (first_node h + n)))
  pub agent : (i : ℕ) → i < h.agents → image_row m (34 + i) ≡ line text (first_agent h + i)

-- the lines before the contents of a text with the header h are loaded into the image m, which becomes n: refusal 1 at the place r
abbrev pub LinesLoaded : Header → List ℕ → List ℕ → List ℕ → Option ℕ → Type 0
LinesLoaded h text m n r =
    (r ≡ least_from (bad_line text) (first_entry h - first_function) first_function)
    × (n ≡ lines_loaded h text (lines_before first_function (first_entry h) r) m)
