-- Terms: the tree that a node stands for, and its value (SPECIFICATION 4.1; Lipari Guide 2.3).
use Rattle.std.specs.Prelude.{Bool, ◌&&◌, ◌||◌, not, List, [], ◌∷◌, ℕ, zero, suc, ◌+◌, ◌-◌, eqb, ltb, leb, get_or, if◌then◌else◌}
use Rattle.book.specs.declared.Node.{Node}
use Rattle.book.specs.Book.{undef, true_element, zero_element, boolean, truth, Program, location}
use Rattle.engine.specs.Reader.{Reader, done, read, ◌>>=◌}

-- the operations of two operands, kinds 7 and 9 to 13
pub data Op : Type 0 where
  equal conjunction disjunction plus minus less : Op

-- a term, as a tree
pub data Term : Type 0 where
  element : ℕ → Term
  variable : ℕ → Term
  self : Term
  at0 : ℕ → Term
  at1 : ℕ → Term → Term
  at2 : ℕ → Term → Term → Term
  negated : Term → Term
  joined : Op → Term → Term → Term

-- which term a node is; a node of another kind counts as undef
pub data Shape : Type 0 where
  an_element a_variable the_agent of_none of_one of_two a_not no_term : Shape
  a_join : Op → Shape

-- the shapes of kinds 0 to 13
abbrev pub shapes : List Shape
shapes =
    no_term ∷ an_element ∷ a_variable ∷ the_agent ∷ of_none ∷ of_one ∷ of_two ∷ a_join equal ∷ a_not ∷ a_join conjunction ∷ a_join disjunction ∷ a_join plus
    ∷ a_join minus
    ∷ a_join less
    ∷ []

-- the shape of a node; that of no term if its kind is none
abbrev pub shape : Node → Shape
shape x = get_or shapes x.kind no_term

-- The term that a node of this shape stands for, built at most d nodes deep; ns gives each node by its number. In an accepted book 32 nodes are
-- enough.
unfoldable pub tree : (ℕ → Node) → ℕ → Shape → Node → Term
tree ns zero s x = element undef
tree ns (suc d) no_term x = element undef
tree ns (suc d) an_element x = element x.a
tree ns (suc d) a_variable x = variable x.a
tree ns (suc d) the_agent x = self
tree ns (suc d) of_none x = at0 x.a
tree ns (suc d) of_one x = let b = ns x.b in at1 x.a (tree ns d (shape b) b)
tree ns (suc d) of_two x =
    let b = ns x.b in
    let c = ns x.c in
    at2 x.a (tree ns d (shape b) b) (tree ns d (shape c) c)
tree ns (suc d) a_not x = let a = ns x.a in negated (tree ns d (shape a) a)
tree ns (suc d) (a_join o) x =
    let a = ns x.a in
    let b = ns x.b in
    joined o (tree ns d (shape a) a) (tree ns d (shape b) b)

-- the term that node n stands for, built at most d nodes deep
abbrev pub term_at : (ℕ → Node) → ℕ → ℕ → Term
term_at ns d n = tree ns d (shape (ns n)) (ns n)

-- ---- values

-- x is a number of the book: the number n is element 3 + n, if that is below P
abbrev pub number : ℕ → ℕ → Bool
number P x = leb zero_element x && ltb x P

-- The value of an operation. An operand that is no Boolean or no number gives undef, and so does a sum or difference that is no number of the book
unfoldable pub apply : ℕ → Op → ℕ → ℕ → ℕ
apply P equal x y = truth (eqb x y)
apply P conjunction x y = if boolean x && boolean y then truth (eqb x true_element && eqb y true_element) else undef
apply P disjunction x y = if boolean x && boolean y then truth (eqb x true_element || eqb y true_element) else undef
apply P plus x y = if number P x && number P y && ltb (x + y - zero_element) P then x + y - zero_element else undef
apply P minus x y = if number P x && number P y && leb y x then zero_element + (x - y) else undef
apply P less x y = if number P x && number P y then truth (ltb x y) else undef

-- the value of not
abbrev pub negate : ℕ → ℕ
negate x = if boolean x then truth (not (eqb x true_element)) else undef

-- The value of a term for the agent whose element is me; vs are the variables' values.
unfoldable pub eval : Program → ℕ → List ℕ → Term → Reader ℕ
unfolding ◌>>=◌
eval B me vs (element x) = done x
eval B me vs (variable v) = done (get_or vs v undef)
eval B me vs self = done me
eval B me vs (at0 f) = read (location B f 0 0)
eval B me vs (at1 f a) = do
  x ← eval B me vs a
  read (location B f x 0)
eval B me vs (at2 f a b) = do
  x ← eval B me vs a
  y ← eval B me vs b
  read (location B f x y)
eval B me vs (negated a) = do
  x ← eval B me vs a
  done (negate x)
eval B me vs (joined o a b) = do
  x ← eval B me vs a
  y ← eval B me vs b
  done (apply B.P o x y)

-- The location that a term of kind 4 to 6 names: its arguments are evaluated, and it is not read. No other term is ever a location term.
unfoldable pub target : Program → ℕ → List ℕ → Term → Reader ℕ
unfolding ◌>>=◌
target B me vs (element x) = done 0
target B me vs (variable v) = done 0
target B me vs self = done 0
target B me vs (at0 f) = done (location B f 0 0)
target B me vs (at1 f a) = do
  x ← eval B me vs a
  done (location B f x 0)
target B me vs (at2 f a b) = do
  x ← eval B me vs a
  y ← eval B me vs b
  done (location B f x y)
target B me vs (negated a) = done 0
target B me vs (joined o a b) = done 0

-- the function of the location that a term of kind 4 to 6 names
unfoldable pub function_of : Term → ℕ
function_of (element x) = 0
function_of (variable v) = 0
function_of self = 0
function_of (at0 f) = f
function_of (at1 f a) = f
function_of (at2 f a b) = f
function_of (negated a) = 0
function_of (joined o a b) = 0
