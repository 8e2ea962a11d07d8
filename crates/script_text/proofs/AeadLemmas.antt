-- Commands of authenticated requests, by what these ask for.
use Rattle.std.proofs.Common.{◌≡◌, ℕ, Bool, List, [], ◌∷◌, Option, Some, None, refl}
use Rattle.std.specs.Prelude.{option_map}
use Rattle.sg_walk.specs.Segments.{Segmented}
use Rattle.script_text.specs.Arguments.{◌>>=◌, hex_of, text_of, label_of, backlog_of}
use Rattle.script_text.specs.AeadRequests.{request_of}
use Rattle.script_text.specs.Commands.{aead_row}
use Rattle.script_text.specs.declared.commands.Command.TheVariants as says

bind_as : {A B C : Type 0} (g : B → C) (o : Option A) (k : A → Option B) (h : A → Option C) → ((x : A) → h x ≡ option_map g (k x)) → (o >>= h) ≡ option_map g (o >>= k)
bind_as g (Some x) k h each = each x
bind_as g None k h each = refl

-- what is made of the arguments, made of what they ask for
aead_as : {A B : Type 0} (f : List ℕ → List ℕ → List ℕ → Segmented → Bool → A) (g : A → B) (args : List (List ℕ)) → aead_row (λ l i a t b. g (f l i a t b)) args ≡ option_map g (aead_row f args)
aead_as f g (label ∷ iv ∷ aad ∷ text ∷ more) =
    bind_as g (label_of label) _ _ (λ l.
    bind_as g (hex_of iv) _ _ (λ i.
    bind_as g (hex_of aad) _ _ (λ a.
    bind_as g (text_of text) _ _ (λ t.
    bind_as g (backlog_of more) _ _ (λ b. refl)))))
aead_as f g other = refl

pub enc_as : (args : List (List ℕ)) → aead_row says.Enc args ≡ option_map (λ r. says.Enc r.label r.iv r.aad r.text r.backlog) (aead_row request_of args)
enc_as args = aead_as request_of (λ r. says.Enc r.label r.iv r.aad r.text r.backlog) args

pub dec_as : (args : List (List ℕ)) → aead_row says.Dec args ≡ option_map (λ r. says.Dec r.label r.iv r.aad r.text r.backlog) (aead_row request_of args)
dec_as args = aead_as request_of (λ r. says.Dec r.label r.iv r.aad r.text r.backlog) args
