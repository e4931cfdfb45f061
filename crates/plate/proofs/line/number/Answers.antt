use Rattle.std.proofs.Common.{◌+◌, ◌*◌, ◌/◌, ◌%◌, ◌<◌, arith, ltb-false, ltb-true}
use Rattle.plate.proofs.Numbers.{none_from, from_one, from_two}
use Rattle.plate.proofs.line.number.Goals as goal

pub returns-in_err-digit-in-len2 : goal.returns-in_err-digit-in-len2
returns-in_err-digit-in-len2 c =
    rw c.from_residual.ensures
    (none_from c.args.digits.now (λ n w. omega (arith, ltb-true, ltb-false))
    (λ n high w. c.in_err-digit-in-len2.ensures (n / 10) (omega (arith, ltb-true, ltb-false)) w.tens))

pub returns-in_err-digit-in-len2-2 : goal.returns-in_err-digit-in-len2-2
returns-in_err-digit-in-len2-2 c =
    rw c.from_residual-in_err-digit-in-len2-2.ensures
    (none_from c.args.digits.now (λ n w. omega (arith, ltb-true, ltb-false))
    (λ n high w. c.in_err-digit-in-len2-2.ensures (n % 10) (omega (arith, ltb-true, ltb-false)) w.ones))

pub returns-in-len1 : goal.returns-in-len1
returns-in-len1 c = from_one c.args.digits.now c.digit.result (omega (arith, ltb-true, ltb-false)) c.digit.ensures

pub returns-in-48 : goal.returns-in-48
returns-in-48 c = none_from c.args.digits.now (λ n w. omega (arith, ltb-true, ltb-false)) (λ n high w. omega (arith, ltb-true, ltb-false))

pub returns-in_ok-digit-in-len2-2 : goal.returns-in_ok-digit-in-len2-2
returns-in_ok-digit-in-len2-2 c =
    let t = c.in_ok-digit-in-len2.ensures in
    let o = c.in_ok-digit-in-len2-2.ensures in
    let high : 10 * c.in_ok-digit-in-len2.field-0 + c.in_ok-digit-in-len2-2.field-0 < 100 = omega (arith, ltb-true, ltb-false) in
    (high, from_two c.args.digits.now _ (omega (arith, ltb-true, ltb-false)) (omega (arith, ltb-true, ltb-false)) high (omega (arith, ltb-true, ltb-false)) (omega (arith, ltb-true, ltb-false)))

pub returns-in_default : goal.returns-in_default
returns-in_default c = none_from c.args.digits.now (λ n w. omega (arith, ltb-true, ltb-false)) (λ n high w. omega (arith, ltb-true, ltb-false))

pub returns-in_default-2 : goal.returns-in_default-2
returns-in_default-2 c = none_from c.args.digits.now (λ n w. omega (arith, ltb-true, ltb-false)) (λ n high w. omega (arith, ltb-true, ltb-false))
