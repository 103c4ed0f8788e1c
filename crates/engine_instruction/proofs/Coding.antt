-- Numbers that stand for an update and for a release.
use mathlib.Core.Path.{◌≡◌, ◌∙◌}
use Prim.Native.Nat.{ℕ, ◌+◌, ◌*◌, ◌/◌, ◌%◌, ◌<◌}
use native.Mathlib.Nat.{mul-add-div_right, mul-add-mod_self_right, div-eq_of_lt, mod-eq_of_lt}
use native.Mathlib.Omega.{arith}
use borrow.Author.Tests.{lt-ltb, le-ltb}
use Rattle.engine.specs.declared.Instruction.TheVariants.{Update, Release}
use Rattle.engine_instruction.specs.Code.{decode_of}

pub decode_update : (l v : ℕ) → l < 4294967296 → v < 65536 → decode_of (l * 65536 + v) ≡ Update l v
unfolding decode_of
decode_update l v h k =
    let d : (l * 65536 + v) / 65536 ≡ l = mul-add-div_right {m = 65536} (omega arith) l v ∙ rw (div-eq_of_lt k) (omega arith) in
    let e : (l * 65536 + v) % 65536 ≡ v = mul-add-mod_self_right l 65536 v ∙ mod-eq_of_lt k in
    rw (lt-ltb (l * 65536 + v) 281474976710656 (omega arith), d, e)

pub decode_release : (x : ℕ) → x < 65536 → decode_of (281474976710656 + x) ≡ Release x
unfolding decode_of
decode_release x h =
    let q : 281474976710656 + x ≡ 4294967296 * 65536 + x = omega arith in
    let e : (281474976710656 + x) % 65536 ≡ x = rw q (mul-add-mod_self_right 4294967296 65536 x ∙ mod-eq_of_lt h) in
    rw (le-ltb (281474976710656 + x) 281474976710656 (omega arith), e)
