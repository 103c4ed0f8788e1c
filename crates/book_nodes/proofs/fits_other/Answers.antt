-- `fits_other` meets its contract: what fits a sort is what the definition says of that sort alone.
use mathlib.Core.Path.{◌≡◌}
use mathlib.Core.Bool.{or-false}
use mathlib.Core.Logic.{◌≢◌, ◌⊎◌, inl, inr}
use Rattle.book.specs.Lines.{fits}
use Rattle.book_nodes.specs.declared.Sort.{Sort}
use Rattle.book_nodes.specs.declared.Sort.TheVariants.{NoKind, Unused, Term, Rule}
use Rattle.book_nodes.proofs.fits_other.Goals as goal

no_kind : (s : Sort) → (s ≡ NoKind) ⊎ ((s ≡ Unused) ⊎ ((s ≡ Term) ⊎ (s ≡ Rule))) → (s ≢ Unused) × (s ≢ Term) × (s ≢ Rule) → s ≡ NoKind
no_kind s (inl e) r = e
no_kind s (inr (inl e)) r = absurd (r.0 e)
no_kind s (inr (inr (inl e))) r = absurd (r.1 e)
no_kind s (inr (inr (inr e))) r = absurd (r.2 e)

pub returns-in-NoKind : goal.returns-in-NoKind
unfolding fits
returns-in-NoKind c = rw (no_kind c.args.s c.in-NoKind.is c.requires) (simp or-false)

pub returns-in-Permanent : goal.returns-in-Permanent
unfolding fits
returns-in-Permanent c = rw (c.in-Permanent.is, c.permanent.ensures) (simp or-false)

pub returns-in-Variable : goal.returns-in-Variable
unfolding fits
returns-in-Variable c = rw (c.in-Variable.is) (simp or-false)

pub returns-in-Function0 : goal.returns-in-Function0
unfolding fits
returns-in-Function0 c = rw (c.in-Function0.is, c.is_named.ensures) (simp or-false)

pub returns-in-Function1 : goal.returns-in-Function1
unfolding fits
returns-in-Function1 c = rw (c.in-Function1.is, c.is_named-in-Function1.ensures) (simp or-false)

pub returns-in-Function2 : goal.returns-in-Function2
unfolding fits
returns-in-Function2 c = rw (c.in-Function2.is, c.is_named-in-Function2.ensures) (simp or-false)

pub returns-in-Universe : goal.returns-in-Universe
unfolding fits
returns-in-Universe c = rw (c.in-Universe.is, c.is_relation.ensures, c.function_at.ensures, c.is_named-in-Universe.ensures) (simp or-false)

pub returns-in-DynamicUniverse : goal.returns-in-DynamicUniverse
unfolding fits
returns-in-DynamicUniverse c = rw (c.in-DynamicUniverse.is, c.function_at-in-DynamicUniverse.ensures, c.is_named-in-DynamicUniverse.ensures) (simp or-false)

pub returns-in-LocationTerm : goal.returns-in-LocationTerm
unfolding fits
returns-in-LocationTerm c = rw (c.in-LocationTerm.is, c.is_dynamic.ensures, c.function_at-in-LocationTerm.ensures, c.node_at-y.ensures)
