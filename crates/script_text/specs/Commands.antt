-- The commands: what the arguments of each spell, a row a command.
use Rattle.std.specs.Prelude.{ℕ, Bool, if◌then◌else◌, List, [], ◌∷◌, codes, Option, Some, None}
use Rattle.std.specs.Str.{bytes_eq}
use Rattle.sg_walk.specs.Segments.{Segmented}
use Rattle.script_text.specs.Arguments.{◌>>=◌, hex_of, text_of, label_of, lone_label_of, number_of, mask_of, length_of, names_of, backlog_of}
use Rattle.script_text.specs.declared.commands.Command.{Command}
use Rattle.script_text.specs.declared.commands.Command.TheVariants as says

-- `aes KEY BLOCK`
abbrev pub aes_row : List (List ℕ) → Option Command
aes_row (key ∷ block ∷ []) = do
  key ← hex_of key
  block ← hex_of block
  Some (says.Aes key block)
aes_row other = None

-- `register DRIVER NUM`
abbrev pub register_row : List (List ℕ) → Option Command
register_row (driver ∷ priority ∷ []) = do
  priority ← number_of priority
  Some (says.Register driver priority)
register_row other = None

-- `unregister DRIVER`
abbrev pub unregister_row : List (List ℕ) → Option Command
unregister_row (driver ∷ []) = Some (says.Unregister driver)
unregister_row other = None

-- `probe NAME ..`
abbrev pub probe_row : List (List ℕ) → Option Command
probe_row args = do
  names ← names_of args
  Some (says.Probe names)

-- `alloc T NAME [NUM]`
abbrev pub alloc_row : List (List ℕ) → Option Command
alloc_row (label ∷ name ∷ more) = do
  label ← label_of label
  length ← length_of more
  Some (says.Alloc label name length)
alloc_row other = None

-- `key T HEX`
abbrev pub key_row : List (List ℕ) → Option Command
key_row (label ∷ key ∷ []) = do
  label ← label_of label
  key ← hex_of key
  Some (says.Key label key)
key_row other = None

-- `authsize T NUM`
abbrev pub authsize_row : List (List ℕ) → Option Command
authsize_row (label ∷ size ∷ []) = do
  label ← label_of label
  size ← number_of size
  Some (says.Authsize label size)
authsize_row other = None

-- `enc T IV AAD TEXT [backlog]` and `dec T IV AAD TEXT [backlog]`
abbrev pub aead_row : {A : Type 0} → (List ℕ → List ℕ → List ℕ → Segmented → Bool → A) → List (List ℕ) → Option A
aead_row command (label ∷ iv ∷ aad ∷ text ∷ more) = do
  label ← label_of label
  iv ← hex_of iv
  aad ← hex_of aad
  text ← text_of text
  backlog ← backlog_of more
  Some (command label iv aad text backlog)
aead_row command other = None

-- `mac T TEXT [backlog]`
abbrev pub mac_row : List (List ℕ) → Option Command
mac_row (label ∷ text ∷ more) = do
  label ← label_of label
  text ← text_of text
  backlog ← backlog_of more
  Some (says.Mac label text backlog)
mac_row other = None

-- `bulk T SIZE SEED`
abbrev pub bulk_row : List (List ℕ) → Option Command
bulk_row (label ∷ size ∷ seed ∷ []) = do
  label ← label_of label
  size ← number_of size
  seed ← number_of seed
  Some (says.Bulk label size seed)
bulk_row other = None

-- `mask T MASK`
abbrev pub mask_row : List (List ℕ) → Option Command
mask_row (label ∷ mask ∷ []) = do
  label ← label_of label
  mask ← mask_of mask
  Some (says.Mask label mask)
mask_row other = None

-- `hold T`, `go T`, `poll T`, `drain T` and `free T`
abbrev pub label_row : (List ℕ → Command) → List (List ℕ) → Option Command
label_row command args = do
  label ← lone_label_of args
  Some (command label)

-- `refs DRIVER`
abbrev pub refs_row : List (List ℕ) → Option Command
refs_row (driver ∷ []) = Some (says.Refs driver)
refs_row other = None

-- `list`
abbrev pub list_row : List (List ℕ) → Option Command
list_row [] = Some says.List
list_row other = None

-- a command that shows what the registry holds
abbrev pub listing_command_of : List ℕ → List (List ℕ) → Option Command
listing_command_of name args =
    if bytes_eq name (codes "refs") then refs_row args
    else if bytes_eq name (codes "list") then list_row args
    else None

-- a command for a transform's pipeline, or else one of those above
abbrev pub pipeline_command_of : List ℕ → List (List ℕ) → Option Command
pipeline_command_of name args =
    if bytes_eq name (codes "mask") then mask_row args
    else if bytes_eq name (codes "hold") then label_row says.Hold args
    else if bytes_eq name (codes "go") then label_row says.Go args
    else if bytes_eq name (codes "poll") then label_row says.Poll args
    else if bytes_eq name (codes "drain") then label_row says.Drain args
    else if bytes_eq name (codes "free") then label_row says.Free args
    else listing_command_of name args

-- a command with a request for a transform, or else one of those above
abbrev pub request_command_of : List ℕ → List (List ℕ) → Option Command
request_command_of name args =
    if bytes_eq name (codes "enc") then aead_row says.Enc args
    else if bytes_eq name (codes "dec") then aead_row says.Dec args
    else if bytes_eq name (codes "mac") then mac_row args
    else if bytes_eq name (codes "bulk") then bulk_row args
    else pipeline_command_of name args

-- a command that makes a transform, or sets its key or tag, or else one of those above
abbrev pub transform_command_of : List ℕ → List (List ℕ) → Option Command
transform_command_of name args =
    if bytes_eq name (codes "alloc") then alloc_row args
    else if bytes_eq name (codes "key") then key_row args
    else if bytes_eq name (codes "authsize") then authsize_row args
    else request_command_of name args

-- the command that a name and its arguments spell
abbrev pub command_of : List ℕ → List (List ℕ) → Option Command
command_of name args =
    if bytes_eq name (codes "aes") then aes_row args
    else if bytes_eq name (codes "register") then register_row args
    else if bytes_eq name (codes "unregister") then unregister_row args
    else if bytes_eq name (codes "probe") then probe_row args
    else transform_command_of name args
