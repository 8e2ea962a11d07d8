use Rattle.transforms.proofs.Uncut.{uncut_value, uncut_taken}
use Rattle.transforms.proofs.laws.cuts_change_nothing.Goals as goal

pub returns : goal.returns
returns c = record { value = uncut_value; taken = uncut_taken }
