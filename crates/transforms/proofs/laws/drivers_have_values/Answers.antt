use Rattle.transforms.proofs.Drivers.{driver_is, plan_of_driver}
use Rattle.transforms.proofs.RequestValues.{planned_value, asked_value}
use Rattle.transforms.proofs.laws.drivers_have_values.Goals as goal

pub returns : goal.returns
returns c = record { planned = plan_of_driver; unwrapped = driver_is; wrapped = planned_value; asks = asked_value }
