use Rattle.std.proofs.Common.{◌<◌, ◌≤◌, ◌^◌, arith}
use Rattle.std.proofs.Math.Nat.{pow-le-pow_right}
use Rattle.ae_base.proofs.digits.value.Goals as goal

pub overflow_mul-n : goal.overflow_mul-n
overflow_mul-n c =
    let ten : 0 < 10 = omega arith in
    let few : c.loop-b.b-index ≤ 8 = omega arith in
    let p : 10 ^ c.loop-b.b-index ≤ 10 ^ 8 = pow-le-pow_right ten few in
    omega arith

pub overflow_add-n : goal.overflow_add-n
overflow_add-n c =
    let ten : 0 < 10 = omega arith in
    let few : c.loop-b.b-index ≤ 8 = omega arith in
    let p : 10 ^ c.loop-b.b-index ≤ 10 ^ 8 = pow-le-pow_right ten few in
    omega (arith, c.type_inv.word c.loop-b.b-index)
