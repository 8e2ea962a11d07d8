use Rattle.client_texts.specs.Outputs.{scripts_of}
use Rattle.client_texts.proofs.OneOutput.{one-output}
use Rattle.client_texts.proofs.laws.one_output.Goals as goal

pub returns : goal.returns
returns c = λ workers clients input r b x y. one-output c.turns_follow.ensures workers (scripts_of clients input) r b x y
