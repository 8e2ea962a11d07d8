use Rattle.perdoaze_calls.proofs.Listing.{fastest}
use Rattle.perdoaze_calls.proofs.laws.names_stand_for_the_fastest.Goals as goal

pub returns : goal.returns
returns c = fastest
