-- AES in the form that a plan names
use Rattle.std.specs.Prelude.{ℕ, List}
use Rattle.templates.specs.declared.driver_plans.AesForm.{AesForm}
use Rattle.templates.specs.declared.driver_plans.AesForm.TheVariants.{AesGeneric, AesTable, AesLanes}
use Rattle.transforms.specs.declared.any_aes.AnyAes.{AnyAes}
use Rattle.transforms.specs.declared.any_aes.AnyAes.TheVariants.{Generic, Table, Lanes}

-- the key
abbrev pub key_of : AnyAes → List ℕ
key_of (Generic key) = key.bytes
key_of (Table key) = key.bytes
key_of (Lanes key) = key.value.bytes

-- the form
abbrev pub form_of : AnyAes → AesForm
form_of (Generic key) = AesGeneric
form_of (Table key) = AesTable
form_of (Lanes key) = AesLanes
