-- The line `bulk T SIZE SEED`, which asks nothing: CTR of a long text that is drawn from a seed, and the digest of what
-- it gives.
use Rattle.std.specs.Prelude.{ℕ, ◌^◌, Bool, true, false, ◌&&◌, nat_le, if◌then◌else◌, List, Option, Some, None}
use Rattle.sha2.specs.Sha256.{sha256}
use Rattle.kc_base.specs.declared.error_numbers.Errno.TheVariants.{EINVAL, ENOKEY}
use Rattle.std_defs.specs.Aes.{seal}
use Rattle.std_defs.specs.Modes.{ctr}
use Rattle.generator.specs.Draws.{drawn}
use Rattle.templates.specs.declared.driver_plans.Plan.{Plan}
use Rattle.templates.specs.declared.driver_plans.Plan.TheVariants.{Ctr}
use Rattle.reply_text.specs.declared.answers.Answer.{Answer}
use Rattle.reply_text.specs.declared.answers.Answer.TheVariants as said
use Rattle.dialogues.specs.Dialogues.{Dialogue, says, with_either}
use Rattle.dialogues.specs.ScriptState.{ScriptState, Live, PipelineState}

-- the root of its driver's name is `ctr`: it computes CTR, and neither `pcrypt` nor `cryptd` stands over it
abbrev pub is_ctr : Plan → Option PipelineState → Bool
is_ctr (Ctr aes) None = true
is_ctr other pipe = false

-- 1 to 2^24 bytes
abbrev pub is_bulk_size : ℕ → Bool
is_bulk_size size = nat_le 1 size && nat_le size (2 ^ 24)

-- the first counter block is drawn first
abbrev pub bulk_counter : ℕ → List ℕ
bulk_counter seed = (drawn seed 16).0

-- and then the text
abbrev pub bulk_text : ℕ → ℕ → List ℕ
bulk_text size seed = (drawn (drawn seed 16).1 size).0

-- the digest of the text under CTR of a cipher
abbrev pub bulk_digest : (List ℕ → List ℕ) → ℕ → ℕ → List ℕ
bulk_digest sealed size seed = sha256 (ctr sealed (bulk_counter seed) (bulk_text size seed))

abbrev pub bulk_under : ℕ → Live → ℕ → ℕ → Option (List ℕ) → Answer
bulk_under n live size seed None = said.Refused n ENOKEY
bulk_under n live size seed (Some key) =
    if is_ctr live.plan live.pipe && is_bulk_size size
    then said.Value n (bulk_digest (seal key) size seed)
    else said.Refused n EINVAL

abbrev pub bulk_said : ℕ → Live → ℕ → ℕ → Answer
bulk_said n live size seed = bulk_under n live size seed live.key

abbrev pub bulk : ScriptState → ℕ → List ℕ → ℕ → ℕ → Dialogue
bulk script_state n label size seed = with_either script_state n label λ live. says script_state (bulk_said n live size seed)
