-- A text in pieces that is changed where they lie.
use Rattle.std.proofs.Common.{◌≡◌, ℕ, ◌+◌, ◌-◌, ◌≤◌, true, false, List, [], ◌∷◌, ◌++◌, length, map, take, drop, refl, sym, ap, ap₂, subst, ◌∙◌, arith, Option, Some, None, inl, inr, ⊎_elim, length-append, length-drop, take-append-drop}
use Rattle.std.specs.Prelude.{◌==◌, ◌&&◌, ◌||◌, if◌then◌else◌, nat_le, bytes_eq}
use Rattle.std.specs.Option.{option_map}
use Rattle.std.proofs.lemmas.Bool.{eqb-true, leb-true}
use Rattle.std.proofs.lemmas.List.{drop-drop, length-take-le}
use Rattle.std.proofs.Math.Seq.{take-add}
use Rattle.std_defs.specs.Aes.{seal}
use Rattle.std_defs.specs.Gcm.{gcm_seal, gcm_open, gcm_takes_tag}
use Rattle.std_defs.specs.Rfc4106.{rfc4106_takes, rfc4106_iv, rfc4106_associated}
use Rattle.std_defs.specs.Authenc.{authenc_seal, authenc_open}
use Rattle.std_defs.specs.Hmac.{hmac_under}
use Rattle.authenc.proofs.Opening.{same_tag, other_tag}
use Rattle.std_defs.specs.Value.{Value, or_bad_message, or_invalid}
use Rattle.std_defs.specs.Value.Value.{bytes, bad_message, invalid}
use Rattle.aes_block.specs.Opened.{IsRefusal}
use Rattle.kc_base.specs.declared.error_numbers.Errno.{Errno}
use Rattle.templates.specs.declared.driver_plans.Plan.{Plan}
use Rattle.transforms.specs.InPlace as kept
use Rattle.transforms.specs.InPlace.{unsealing, opening}
use Rattle.transforms.specs.Modes.{gcm_seals, gcm_opens, rfc4106_seals, rfc4106_opens, authenc_seals, authenc_opens}
use Rattle.transforms.specs.Tagged.{tagged}
use Rattle.perdoaze_calls.proofs.Answering.{IsKey, has_value}
use Rattle.perdoaze_calls.proofs.KeySizes.{either, second}
use Rattle.perdoaze_calls.proofs.Making.{gave_at, tagged_front, tagged_rest}
use Rattle.piece_modes.specs.Pieces.{text_over, size_of}
use Rattle.piece_modes.specs.declared.piece.PieceMut.{PieceMut}
use Rattle.perdoaze_calls.specs.Over.{Opens}
use Rattle.perdoaze_calls.specs.Requests.{DecryptsWithin}
use Rattle.perdoaze_calls.specs.declared.status.Status.TheVariants.{Done, BadMessage}
use Rattle.perdoaze_calls.specs.declared.transform.Transform.{Transform}

pub short_gcm_tag : (n : ℕ) → gcm_takes_tag n ≡ true → n ≤ 16
short_gcm_tag n e =
    ⊎_elim (λ a. let x : n ≡ 4 = eqb-true n 4 a in omega (arith, x))
    (λ o. ⊎_elim (λ a. let x : n ≡ 8 = eqb-true n 8 a in omega (arith, x))
    (λ a. let x : n ≤ 16 = leb-true n 16 (second (nat_le 12 n) (nat_le n 16) a) in omega (arith, x))
    (either (n == 8) (nat_le 12 n && nat_le n 16) o))
    (either (n == 4) (n == 8 || (nat_le 12 n && nat_le n 16)) e)

-- a ciphertext of n bytes in front of a text, and `piece` written behind it
module _ (mid new piece : List ℕ) (n size : ℕ) (is : new ≡ take n mid ++ piece ++ drop (n + length piece) mid) (long : length piece ≡ size) (room : n + size ≤ length mid) where
  placed : new ≡ take n mid ++ piece ++ drop (length piece) (drop n mid)
  placed = is ∙ ap (λ (x : List ℕ). take n mid ++ piece ++ x) (sym (drop-drop (length piece) n mid))

  pub front_tagged : take (n + size) new ≡ take n mid ++ piece
  front_tagged = tagged_front mid new piece n size placed long room

  pub rest_tagged : (old : List ℕ) → drop n mid ≡ drop n old → drop (n + size) new ≡ drop (n + size) old
  rest_tagged old e = tagged_rest mid new piece n size placed long room old e

pub gcm_made : (key iv aad text mid new tag piece : List ℕ) (n size : ℕ) → (take n mid, tag) ≡ gcm_seal (seal key) iv aad text → piece ≡ take size tag
    → take (n + size) new ≡ take n mid ++ piece → gcm_seals key size iv aad text ≡ bytes (take (n + size) new)
gcm_made key iv aad text mid new tag piece n size sealed is made =
    ap (λ (s : List ℕ × List ℕ). bytes (tagged size s)) (sym sealed)
    ∙ ap (λ (p : List ℕ). bytes (take n mid ++ p)) (sym is)
    ∙ ap bytes (sym made)

-- the ciphertext and its tag are the first n bytes
pub whole_is : (text tag : List ℕ) (size tag_size n : ℕ) → size + tag_size ≡ n → tag ≡ take tag_size (drop size text) → take size text ++ tag ≡ take n text
whole_is text tag size tag_size n e is =
    ap (λ (x : List ℕ). take size text ++ x) is ∙ sym (take-add size tag_size text) ∙ ap (λ (k : ℕ). take k text) e

module _ (t : Transform) (k : Plan × List ℕ) (iv aad old new tag : List ℕ) (size n : ℕ) (i : IsKey t k) (all : size + t.authsize ≡ n) (within : n ≤ length old)
    (is : tag ≡ take t.authsize (drop size old)) where
  tag_long : length tag ≡ t.authsize
  tag_long = ap length is ∙ length-take-le t.authsize (drop size old) (omega (arith, all, within, length-drop size old))

  asked : opening iv aad (take size old) tag ≡ unsealing iv aad (take n old)
  asked = ap (unsealing iv aad) (whole_is old tag size t.authsize n all is)

  pub decrypted_over : length new ≡ length old → drop size new ≡ drop size old → Opens true k (length tag) (opening iv aad (take size old) tag) size old new
      → DecryptsWithin t iv aad n Done old new size
  decrypted_over long rest h =
      gave_at t k (unsealing iv aad (take n old)) old new size i
      (subst (λ (m : ℕ). kept.HasValue k m (unsealing iv aad (take n old)) (bytes (take size new))) tag_long
      (subst (λ q. kept.HasValue k (length tag) q (bytes (take size new))) asked h))
      rest long (omega (arith, all, within))

  pub refused_over : (written : ℕ) → written ≡ 0 → Opens false k (length tag) (opening iv aad (take size old) tag) size old new → DecryptsWithin t iv aad n BadMessage old new written
  refused_over written none h = (
    has_value t k _ _ i
        (subst (λ (m : ℕ). kept.HasValue k m (unsealing iv aad (take n old)) bad_message) tag_long
        (subst (λ q. kept.HasValue k (length tag) q bad_message) asked h.0)),
    (h.1, none),
  )

-- pieces that keep their lengths keep the length of their text
pub same_total : (old new : List PieceMut) → map size_of new ≡ map size_of old → length (text_over new) ≡ length (text_over old)
same_total [] [] e = refl
same_total [] (q ∷ qs) e = absurd (cc)
same_total (p ∷ ps) [] e = absurd (cc)
same_total (p ∷ ps) (q ∷ qs) e =
    let here : size_of q ≡ size_of p = cc in
    let behind : map size_of qs ≡ map size_of ps = cc in
    length-append q.bytes.now (text_over qs) ∙ ap₂ (λ (a b : ℕ). a + b) here (same_total ps qs behind) ∙ sym (length-append p.bytes.now (text_over ps))

pub whole_same : (n : ℕ) (old new : List ℕ) → take n new ≡ take n old → drop n new ≡ drop n old → new ≡ old
whole_same n old new front rest = sym (take-append-drop n new) ∙ ap₂ (λ (a b : List ℕ). a ++ b) front rest ∙ take-append-drop n old

-- GCM refuses for a wrong tag alone
pub refused_is : (e : Errno) (x : Option (List ℕ)) (n : ℕ) (old new : List ℕ) → IsRefusal e (or_bad_message x) × (take n new ≡ take n old) → drop n new ≡ drop n old
    → (or_bad_message x ≡ bad_message) × (new ≡ old)
refused_is e x n old new ((inl r), same) rest = (r.1, whole_same n old new same rest)
refused_is e None n old new ((inr r), same) rest = absurd (cc)
refused_is e (Some b) n old new ((inr r), same) rest = absurd (cc)

-- RFC 4106 is GCM under the salted IV, over what is authenticated of the associated bytes
module _ (key salt iv aad text nonce part : List ℕ) (taken : rfc4106_takes aad ≡ true) (salted : nonce ≡ rfc4106_iv salt iv) (shorter : part ≡ rfc4106_associated aad) where
  pub rfc4106_made : (size : ℕ) (v : Value) → gcm_seals key size nonce part text ≡ v → rfc4106_seals key salt size iv aad text ≡ v
  rfc4106_made size v made =
      ap (λ b. or_invalid (option_map (tagged size) (if b then Some (gcm_seal (seal key) (rfc4106_iv salt iv) (rfc4106_associated aad) text) else None))) taken
      ∙ ap₂ (λ (n a : List ℕ). gcm_seals key size n a text) (sym salted) (sym shorter)
      ∙ made

  pub rfc4106_by : (tag : List ℕ) → rfc4106_opens key salt iv aad text tag ≡ gcm_opens key nonce part text tag
  rfc4106_by tag =
      ap (λ b. if b then or_bad_message (gcm_open (seal key) (rfc4106_iv salt iv) (rfc4106_associated aad) text tag) else invalid) taken
      ∙ ap₂ (λ (n a : List ℕ). gcm_opens key n a text tag) (sym salted) (sym shorter)

-- authenc: the cipher's text, and the front of the MAC behind it
pub authenc_made_over : (block iv aad text mid new : List ℕ) (seals : List ℕ → List ℕ → Option (List ℕ)) (n size : ℕ) → seals iv text ≡ Some (take n mid)
    → take (n + size) new ≡ take n mid ++ take size (hmac_under block (aad ++ take n mid))
    → authenc_seals block seals size iv aad text ≡ bytes (take (n + size) new)
unfolding authenc_seal
authenc_made_over block iv aad text mid new seals n size sealed made = rw (sealed, made) refl

module _ (block iv aad text full tag : List ℕ) (unseals : List ℕ → List ℕ → Option (List ℕ)) (is : full ≡ hmac_under block (aad ++ text)) where
  pub authenc_refused : bytes_eq (take (length tag) full) tag ≡ false → authenc_opens block unseals iv aad text tag ≡ bad_message
  unfolding authenc_open
  authenc_refused differ = other_tag full (hmac_under block (aad ++ text)) tag (length tag) (unseals iv text) is differ

  pub authenc_opened : (new : List ℕ) → bytes_eq (take (length tag) full) tag ≡ true → unseals iv text ≡ Some new → authenc_opens block unseals iv aad text tag ≡ bytes new
  unfolding authenc_open
  authenc_opened new same made = same_tag full (hmac_under block (aad ++ text)) tag (length tag) (unseals iv text) is same ∙ ap or_invalid made
