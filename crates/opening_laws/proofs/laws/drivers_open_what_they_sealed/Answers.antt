use Rattle.opening_laws.proofs.Opening.{opens_what_it_sealed}
use Rattle.opening_laws.proofs.laws.drivers_open_what_they_sealed.Goals as goal

pub returns : goal.returns
returns c = opens_what_it_sealed
