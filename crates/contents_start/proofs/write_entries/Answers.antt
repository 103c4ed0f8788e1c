-- `write_entries` meets its contract.
use mathlib.Core.Path.{◌≡◌, sym, ap, ◌∙◌}
use Prim.Native.Nat.{◌+◌}
use Rattle.text.specs.declared.Line.{Line}
use Rattle.text.specs.Text.{line}
use Rattle.book.specs.Image.{first_entry_in, low_program}
use Rattle.contents_start.specs.Written.{entry_put}
use Rattle.contents_start.proofs.Entries.{lines_next, lines_last}
use Rattle.contents_start.proofs.write_entries.Goals as goal

pub loop-i-preserved : goal.loop-i-preserved
loop-i-preserved c =
    let a = c.args in
    let m = a.image.now in
    let l = c.loop-i in
    let here : c.read_line-entry.result ≡ line a.book.now (first_entry_in m + l.i) = c.read_line-entry.ensures ∙ rw c.first_entry-first.ensures in
    let e = c.write_entry.ensures ∙ ap (λ (x : Line). entry_put (low_program m) x l.contents) here in
    lines_next (low_program m) (λ k. line a.book.now (first_entry_in m + k)) c.entries-count.result l.i l.contents _ c.loop-i-test.true e ∙ l.invariant

pub returns : goal.returns
returns c =
    let a = c.args in
    let m = a.image.now in
    let l = c.loop-i in
    sym (lines_last (low_program m) (λ k. line a.book.now (first_entry_in m + k)) c.entries-count.result l.i l.contents c.loop-i-test.false) ∙ l.invariant
