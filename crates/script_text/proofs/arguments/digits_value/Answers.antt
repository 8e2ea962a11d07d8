use Rattle.std.proofs.Common.{arith}
use Rattle.script_text.proofs.NumberLemmas.{NextDigit, next_digit}
use Rattle.script_text.proofs.arguments.digits_value.Goals as goal

pub overflow_mul-value : goal.overflow_mul-value
overflow_mul-value c =
    let next : NextDigit c.args.digits.now c.loop-digit.digit-index = next_digit _ _ c.requires (omega arith) in
    omega arith

pub overflow_add-value : goal.overflow_add-value
overflow_add-value c =
    let next : NextDigit c.args.digits.now c.loop-digit.digit-index = next_digit _ _ c.requires (omega arith) in
    omega arith

pub loop-digit-preserved : goal.loop-digit-preserved
loop-digit-preserved c =
    let next : NextDigit c.args.digits.now c.loop-digit.digit-index = next_digit _ _ c.requires (omega arith) in
    omega arith
