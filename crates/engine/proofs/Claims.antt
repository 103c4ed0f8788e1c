-- The claims of specs/Claims hold.
use mathlib.Core.Path.{sym, ◌∙◌}
use Rattle.engine.specs.Claims.{MovesReadEqual, MovesFireEqual, MovesLeave, IdleMovesLeave, MovesTally, MovesRefuse, StepsAnswer, ImportsRead, ChoicesRead, ChoicesLack, PicksTaken, PicksAreElements, TreesWhole}
use Rattle.engine.proofs.EqualReads.{same_instructions, same_refusal}
use Rattle.engine.proofs.Moves.{fire_length, fired_frame, fired_static, fired_keep, one_value, idle_leaves, leaves_idle}
use Rattle.engine.proofs.Labels.{fired_tally}
use Rattle.engine.proofs.Same.{updates_same, same_fired}
use Rattle.engine.proofs.Numbers.{move_number}
use Rattle.engine.proofs.Refusals.{step_small}
use Rattle.engine.proofs.Import.{lowest_reads}
use Rattle.engine.proofs.Picks.{choice_reads, choice_lacks, all_picks, step_picks}
use Rattle.engine.proofs.Fuel.{same_root}

pub moves_read_equal : MovesReadEqual
moves_read_equal B c d i s = record {
  instructions = λ w e h. (same_instructions B c d i s w e h).0;
  refusal = λ n q e h r. same_refusal B c d i s n q e h r;
  updates = λ w e h k. ((same_instructions B c d i s w e h).0, sym (updates_same B c d w.made k));
}

pub moves_fire_equal : MovesFireEqual
moves_fire_equal B c d i f s e k h w = same_fired B c d i s f e h w k

pub moves_leave : MovesLeave
moves_leave B ok c s i f e = record {
  long = fire_length f.updates c ∙ s.long;
  frame = fired_frame B ok c s i f e;
  single = λ l v h. fired_frame B ok c s i f e l ∙ one_value B c i f e l v h;
  static = fired_static B ok c s i f e;
  sound = fired_keep B ok c s i f e;
}

pub idle_moves_leave : IdleMovesLeave
idle_moves_leave B ok c s i f e = (idle_leaves c f.updates, leaves_idle B ok c s i f e)

pub moves_tally : MovesTally
moves_tally B ok c s i f e = fired_tally B ok c s i f e

pub moves_refuse : MovesRefuse
moves_refuse B c i n q e = (move_number B c i n q e).0

pub steps_answer : StepsAnswer
steps_answer book c i n = (step_small book c i n).not_16

pub imports_read : ImportsRead
imports_read c x n y e = (lowest_reads c x n y e).2

pub choices_read : ChoicesRead
choices_read B c me n x u r vs w y ys e l = choice_reads B c me n x u r vs w y ys e l

pub choices_lack : ChoicesLack
choices_lack B c me n x u r vs w e = choice_lacks B c me n x u r vs w e

pub picks_taken : PicksTaken
picks_taken B c i w e = all_picks B c i w e

pub picks_are_elements : PicksAreElements
picks_are_elements book c i n B e y h = step_picks book c i n B e y h

pub trees_whole : TreesWhole
trees_whole B ok k d h = same_root B ok k d h
