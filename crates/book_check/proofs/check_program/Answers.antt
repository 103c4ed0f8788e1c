-- `check_program` meets its contract.
-- the image that is lent is as long as an image
-- what each check answers, m being the image before the functions are laid out, and laid m the one after
use Prim.Native.Nat.{◌≤◌}
use lib.ListN.{length}
use Rattle.book.specs.Image.{image_length}
use native.Mathlib.Omega.{arith}
use Rattle.book_check.proofs.Chain.{answered, stops, after, of_functions, of_locations, of_nodes, of_use, of_scopes, of_agents, program_held}
use Rattle.book_load.specs.Loaded.{functions_laid}
use Rattle.text.proofs.Checks.{passing, refusing, refused_alike, none_numbered, must_numbered}
use Rattle.text.specs.Words.{told, answer_of}
use Prim.Native.Nat.{ℕ}
use mathlib.Core.List.{List}
use mathlib.Core.Path.{◌≡◌, ap, ◌∙◌}
use Rattle.book_check.proofs.check_program.Goals as goal
use Rattle.book_check.proofs.check_program.Goals.{After-lay_out, After-must-locations, After-none_at, After-none_at-around, After-none_at-functions, After-none_at-nodes, After-none_at-uses}

whole : (c : After-lay_out) → image_length ≤ length c.args.image.now
whole c = omega (arith, c.lay_out.ensures.1)

of1 : (c : After-none_at-functions) → told c.none_at-functions.result ≡ answer_of (of_functions c.args.image.now)
of1 c = answered 4 _ _ _ c.none_at-functions.ensures c.bad_functions-bad_function.ensures

of2 : (c : After-must-locations) → told c.must-locations.result ≡ answer_of (of_locations (functions_laid c.args.image.now))
of2 c = c.must-locations.ensures ∙ rw (c.locations-all.ensures, c.lay_out.ensures.0)

of3 : (c : After-none_at-nodes) → told c.none_at-nodes.result ≡ answer_of (of_nodes (functions_laid c.args.image.now))
of3 c = answered 5 _ _ _ c.none_at-nodes.ensures c.bad_nodes.ensures ∙ ap (λ (o : List ℕ). answer_of (of_nodes o)) c.lay_out.ensures.0

of4 : (c : After-none_at-uses) → told c.none_at-uses.result ≡ answer_of (of_use (functions_laid c.args.image.now))
of4 c = answered 6 _ _ _ c.none_at-uses.ensures c.bad_use.ensures ∙ ap (λ (o : List ℕ). answer_of (of_use o)) c.lay_out.ensures.0

of5 : (c : After-none_at-around) → told c.none_at-around.result ≡ answer_of (of_scopes (functions_laid c.args.image.now))
of5 c = answered 6 _ _ _ c.none_at-around.ensures c.bad_scope.ensures ∙ ap (λ (o : List ℕ). answer_of (of_scopes o)) c.lay_out.ensures.0

of6 : (c : After-none_at) → told c.none_at.result ≡ answer_of (of_agents (functions_laid c.args.image.now))
of6 c = answered 7 _ _ _ c.none_at.ensures c.bad_agents.ensures ∙ ap (λ (o : List ℕ). answer_of (of_agents o)) c.lay_out.ensures.0

pub returns-in_err-functions : goal.returns-in_err-functions
returns-in_err-functions c = (c.lay_out.ensures.0, whole (goal.at.returns-in_err-functions c).After-lay_out, λ h text room rows. refused_alike _ c.in_err-functions.was c.from_residual.ensures.1 ∙ (stops _ _ _ (of1 (goal.at.returns-in_err-functions c).After-none_at-functions) (refusing c.in_err-functions.was)) ∙ ap answer_of (program_held c.args.image.now h text room (whole (goal.at.returns-in_err-functions c).After-lay_out) rows))

pub returns-in_err-locations : goal.returns-in_err-locations
returns-in_err-locations c = (c.lay_out.ensures.0, whole (goal.at.returns-in_err-locations c).After-lay_out, λ h text room rows. refused_alike _ c.in_err-locations.was c.from_residual-in_err-locations.ensures.1 ∙ (after _ _ _ _ (none_numbered _ _ _ _ (omega arith)) (of1 (goal.at.returns-in_err-locations c).After-none_at-functions) (passing c.in_ok-functions.was) (stops _ _ _ (of2 (goal.at.returns-in_err-locations c).After-must-locations) (refusing c.in_err-locations.was))) ∙ ap answer_of (program_held c.args.image.now h text room (whole (goal.at.returns-in_err-locations c).After-lay_out) rows))

pub returns-in_err-nodes : goal.returns-in_err-nodes
returns-in_err-nodes c = (c.lay_out.ensures.0, whole (goal.at.returns-in_err-nodes c).After-lay_out, λ h text room rows. refused_alike _ c.in_err-nodes.was c.from_residual-in_err-nodes.ensures.1 ∙ (after _ _ _ _ (none_numbered _ _ _ _ (omega arith)) (of1 (goal.at.returns-in_err-nodes c).After-none_at-functions) (passing c.in_ok-functions.was) (after _ _ _ _ (must_numbered _ _ _ _ (omega arith)) (of2 (goal.at.returns-in_err-nodes c).After-must-locations) (passing c.in_ok-locations.was) (stops _ _ _ (of3 (goal.at.returns-in_err-nodes c).After-none_at-nodes) (refusing c.in_err-nodes.was)))) ∙ ap answer_of (program_held c.args.image.now h text room (whole (goal.at.returns-in_err-nodes c).After-lay_out) rows))

pub returns-in_err-uses : goal.returns-in_err-uses
returns-in_err-uses c = (c.lay_out.ensures.0, whole (goal.at.returns-in_err-uses c).After-lay_out, λ h text room rows. refused_alike _ c.in_err-uses.was c.from_residual-in_err-uses.ensures.1 ∙ (after _ _ _ _ (none_numbered _ _ _ _ (omega arith)) (of1 (goal.at.returns-in_err-uses c).After-none_at-functions) (passing c.in_ok-functions.was) (after _ _ _ _ (must_numbered _ _ _ _ (omega arith)) (of2 (goal.at.returns-in_err-uses c).After-must-locations) (passing c.in_ok-locations.was) (after _ _ _ _ (none_numbered _ _ _ _ (omega arith)) (of3 (goal.at.returns-in_err-uses c).After-none_at-nodes) (passing c.in_ok-nodes.was) (stops _ _ _ (of4 (goal.at.returns-in_err-uses c).After-none_at-uses) (refusing c.in_err-uses.was))))) ∙ ap answer_of (program_held c.args.image.now h text room (whole (goal.at.returns-in_err-uses c).After-lay_out) rows))

pub returns-in_err-around : goal.returns-in_err-around
returns-in_err-around c = (c.lay_out.ensures.0, whole (goal.at.returns-in_err-around c).After-lay_out, λ h text room rows. refused_alike _ c.in_err-around.was c.from_residual-in_err-around.ensures.1 ∙ (after _ _ _ _ (none_numbered _ _ _ _ (omega arith)) (of1 (goal.at.returns-in_err-around c).After-none_at-functions) (passing c.in_ok-functions.was) (after _ _ _ _ (must_numbered _ _ _ _ (omega arith)) (of2 (goal.at.returns-in_err-around c).After-must-locations) (passing c.in_ok-locations.was) (after _ _ _ _ (none_numbered _ _ _ _ (omega arith)) (of3 (goal.at.returns-in_err-around c).After-none_at-nodes) (passing c.in_ok-nodes.was) (after _ _ _ _ (none_numbered _ _ _ _ (omega arith)) (of4 (goal.at.returns-in_err-around c).After-none_at-uses) (passing c.in_ok-uses.was) (stops _ _ _ (of5 (goal.at.returns-in_err-around c).After-none_at-around) (refusing c.in_err-around.was)))))) ∙ ap answer_of (program_held c.args.image.now h text room (whole (goal.at.returns-in_err-around c).After-lay_out) rows))

pub returns : goal.returns
returns c = (c.lay_out.ensures.0, whole (goal.at.returns c).After-lay_out, λ h text room rows. (after _ _ _ _ (none_numbered _ _ _ _ (omega arith)) (of1 (goal.at.returns c).After-none_at-functions) (passing c.in_ok-functions.was) (after _ _ _ _ (must_numbered _ _ _ _ (omega arith)) (of2 (goal.at.returns c).After-must-locations) (passing c.in_ok-locations.was) (after _ _ _ _ (none_numbered _ _ _ _ (omega arith)) (of3 (goal.at.returns c).After-none_at-nodes) (passing c.in_ok-nodes.was) (after _ _ _ _ (none_numbered _ _ _ _ (omega arith)) (of4 (goal.at.returns c).After-none_at-uses) (passing c.in_ok-uses.was) (after _ _ _ _ (none_numbered _ _ _ _ (omega arith)) (of5 (goal.at.returns c).After-none_at-around) (passing c.in_ok-around.was) (of6 (goal.at.returns c).After-none_at)))))) ∙ ap answer_of (program_held c.args.image.now h text room (whole (goal.at.returns c).After-lay_out) rows))
