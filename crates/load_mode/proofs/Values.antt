-- What the completions of a load tell, in the standards' terms; and how long a drawn request's lists are.
use Rattle.std.proofs.Common.{◌≡◌, ℕ, zero, suc, ◌+◌, ◌*◌, ◌/◌, ◌%◌, ◌≤◌, Bool, true, false, not, List, [], ◌∷◌, ◌++◌, length, refl, ap, sym, subst, arith, Option, Some, None, length-take}
use Rattle.std.specs.Prelude.{if◌then◌else◌, take, All}
use Rattle.std.specs.List.{flat_map}
use Rattle.std.specs.Int.{w64, to_be_bytes}
use Rattle.std.specs.Option.{option_map_or}
use Rattle.std.proofs.lemmas.List.Elements.{All-nil, All-cons}
use Rattle.rand_core.specs.Steps.{word_bytes}
use Rattle.rand_xoshiro.specs.SplitMix64.{mix_u64}
use Rattle.std_defs.specs.Aes.{seal}
use Rattle.std_defs.specs.Authenc.{blob, is_blob, blob_keys, cipher_key_length, mac_key_length}
use Rattle.std_defs.specs.Modes.{cbc_seal}
use Rattle.std_defs.specs.Value.{or_invalid}
use Rattle.generator.specs.Draws.{drawn}
use Rattle.templates.specs.Words.{template_named}
use Rattle.transforms.specs.Finish.{finished_of}
use Rattle.transforms.specs.RequestValue.{request_value, with_mac}
use Rattle.std_defs.specs.Hmac.{hmac}
use Rattle.dialogues.specs.BoardCalls.{origin_by, Asked}
use Rattle.dialogues.specs.PipelineCommands.{completion_said}
use Rattle.load_mode.specs.Requests.{Drawn, drawn_request, drawn_requests, mac_key, cipher_key, is_on_a, asked_on_a, asked_on_g, asked_for, asked_from, of_a, of_g, with_hmac, sealed_on_a, sealed_on_g}
use Rattle.load_mode.specs.Turns.{bytes_told}
use Rattle.load_mode.proofs.Passing.{told_of, IsSized}

-- ---- one value

told_on_a : (n : ℕ) (d : Drawn) → told_of (asked_on_a n d) ≡ sealed_on_a ((asked_on_a n d).request)
unfolding request_value template_named blob is_blob blob_keys cipher_key_length mac_key_length
told_on_a n d = by (cbc_seal (seal cipher_key) d.iv d.text)
  where
    by : (o : Option (List ℕ)) → bytes_told (completion_said (origin_by (asked_on_a n d)) (finished_of (with_mac (λ made. hmac mac_key (d.associated ++ made)) 32 (or_invalid o)))) ≡ option_map_or (with_hmac d.associated) o []
    by (Some c) = refl
    by None = refl

told_on_g : (n : ℕ) (d : Drawn) → told_of (asked_on_g n d) ≡ sealed_on_g ((asked_on_g n d).request)
unfolding request_value template_named
told_on_g n d = refl

-- ---- all values

abbrev sealed_a : Asked → List ℕ
sealed_a asked = sealed_on_a asked.request

abbrev sealed_g : Asked → List ℕ
sealed_g asked = sealed_on_g asked.request

pub values_of_a : (n : ℕ) (ds : List Drawn) → flat_map told_of (of_a (asked_from n ds)) ≡ flat_map sealed_a (of_a (asked_from n ds))
values_of_a n [] = refl
values_of_a n (d ∷ ds) = by (is_on_a n) refl (values_of_a (n + 1) ds)
  where
    Same : List Asked → Type 0
    Same asks = flat_map told_of (of_a asks) ≡ flat_map sealed_a (of_a asks)

    by : (t : Bool) → is_on_a n ≡ t → Same (asked_from (n + 1) ds) → Same (asked_for n d ∷ asked_from (n + 1) ds)
    by true is later =
        subst (λ t. Same ((if t then asked_on_a n d else asked_on_g n d) ∷ asked_from (n + 1) ds)) (sym is)
        (subst (λ t. flat_map told_of (if t then asked_on_a n d ∷ of_a (asked_from (n + 1) ds) else of_a (asked_from (n + 1) ds)) ≡ flat_map sealed_a (if t then asked_on_a n d ∷ of_a (asked_from (n + 1) ds) else of_a (asked_from (n + 1) ds))) (sym is)
        (λ k. told_on_a n d k ++ later k))
    by false is later =
        subst (λ t. Same ((if t then asked_on_a n d else asked_on_g n d) ∷ asked_from (n + 1) ds)) (sym is)
        (subst (λ t. flat_map told_of (if t then asked_on_g n d ∷ of_a (asked_from (n + 1) ds) else of_a (asked_from (n + 1) ds)) ≡ flat_map sealed_a (if t then asked_on_g n d ∷ of_a (asked_from (n + 1) ds) else of_a (asked_from (n + 1) ds))) (sym is)
        later)

pub values_of_g : (n : ℕ) (ds : List Drawn) → flat_map told_of (of_g (asked_from n ds)) ≡ flat_map sealed_g (of_g (asked_from n ds))
values_of_g n [] = refl
values_of_g n (d ∷ ds) = by (is_on_a n) refl (values_of_g (n + 1) ds)
  where
    Same : List Asked → Type 0
    Same asks = flat_map told_of (of_g asks) ≡ flat_map sealed_g (of_g asks)

    by : (t : Bool) → is_on_a n ≡ t → Same (asked_from (n + 1) ds) → Same (asked_for n d ∷ asked_from (n + 1) ds)
    by true is later =
        subst (λ t. Same ((if t then asked_on_a n d else asked_on_g n d) ∷ asked_from (n + 1) ds)) (sym is)
        (subst (λ t. flat_map told_of (if not t then asked_on_a n d ∷ of_g (asked_from (n + 1) ds) else of_g (asked_from (n + 1) ds)) ≡ flat_map sealed_g (if not t then asked_on_a n d ∷ of_g (asked_from (n + 1) ds) else of_g (asked_from (n + 1) ds))) (sym is)
        later)
    by false is later =
        subst (λ t. Same ((if t then asked_on_a n d else asked_on_g n d) ∷ asked_from (n + 1) ds)) (sym is)
        (subst (λ t. flat_map told_of (if not t then asked_on_g n d ∷ of_g (asked_from (n + 1) ds) else of_g (asked_from (n + 1) ds)) ≡ flat_map sealed_g (if not t then asked_on_g n d ∷ of_g (asked_from (n + 1) ds) else of_g (asked_from (n + 1) ds))) (sym is)
        (λ k. told_on_g n d k ++ later k))

-- ---- lengths

at-most : (n state : ℕ) → length (drawn state n).0 ≤ n
at-most n state = omega (arith, length-take n (word_bytes (to_be_bytes w64) mix_u64 ((n + 7) / 8) state).0)

iv-sized : (state : ℕ) → length (drawn state 16).0 ≡ 16
unfolding word_bytes
iv-sized state = refl

iv-of-g-sized : (state : ℕ) → length (take 12 (drawn state 16).0) ≡ 12
unfolding word_bytes
iv-of-g-sized state = refl

blocks-sized : (draw : ℕ) → 16 * (1 + draw % 16) ≤ 256
blocks-sized draw = omega arith

sized : (state : ℕ) → IsSized (drawn_request state)
sized state =
    let size = mix_u64 state in
    let iv = drawn size.1 16 in
    let associated = drawn iv.1 8 in
    let text = drawn associated.1 (16 * (1 + size.0 % 16)) in
    record {
      iv = iv-sized size.1;
      iv_of_g = iv-of-g-sized size.1;
      associated = at-most 8 iv.1;
      text = omega (arith, at-most (16 * (1 + size.0 % 16)) associated.1, blocks-sized size.0);
    }

pub all-sized : (count state : ℕ) → All IsSized (drawn_requests state count)
all-sized zero state = All-nil IsSized
all-sized (suc more) state = All-cons IsSized (drawn_request state) (drawn_requests (drawn_request state).after more) (sized state) (all-sized more (drawn_request state).after)

pub all-drawn : (count state : ℕ) → length (drawn_requests state count) ≡ count
all-drawn zero state = refl
all-drawn (suc more) state = ap suc (all-drawn more (drawn_request state).after)
