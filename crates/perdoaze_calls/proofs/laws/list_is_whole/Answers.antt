use Rattle.perdoaze_calls.proofs.Listing.{whole, once}
use Rattle.perdoaze_calls.proofs.laws.list_is_whole.Goals as goal

pub returns : goal.returns
returns c = record { whole = whole; once = once }
