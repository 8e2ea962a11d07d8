-- What a request comes to, by what was kept of the key.
use Rattle.std.proofs.Common.{◌≡◌, ℕ, ◌+◌, ◌-◌, ◌≤◌, ◌⊎◌, List, ◌++◌, length, take, drop, replicate, refl, sym, ap, ap₂, subst, ◌∙◌, arith, inl, inr, ⊎_elim, Option, Some, Result, Ok, Err, MatchResult, length-append, length-drop}
use Rattle.std.proofs.lemmas.List.{take-append-drop, take-append-le, length-take-le, take_all}
use Rattle.std.proofs.lemmas.Slice.{drop-append-drop}
use Rattle.std.proofs.Math.Seq.{take-append_seam, drop-append_seam}
use Rattle.std_defs.specs.Value.{Value}
use Rattle.std_defs.specs.Value.Value.{bytes, bad_message, invalid}
use Rattle.kc_base.specs.declared.error_numbers.Errno.{Errno}
use Rattle.templates.specs.declared.driver_plans.Plan.{Plan}
use Rattle.transforms.specs.Asked.{takes}
use Rattle.transforms.specs.Drivers.{driver_of}
use Rattle.transforms.specs.InPlace as kept
use Rattle.transforms.specs.InPlace.{sealing, unsealing}
use Rattle.transforms.specs.RequestValue.{request_value}
use Rattle.transforms.specs.declared.request.Request.{Request}
use Rattle.perdoaze_calls.specs.Requests.{HasValue, IsNotTaken, Gave, Cleared, Answers, refusal}
use Rattle.perdoaze_calls.specs.Under.{key_within}
use Rattle.perdoaze_calls.specs.declared.status.Status.{Status}
use Rattle.perdoaze_calls.specs.declared.transform.Transform.{Transform}

some : Value → Option Value
some v = Some v

-- the key is the transform's
pub record IsKey (t : Transform) (k : Plan × List ℕ) : Type 0 where
  pub plan : k.0 ≡ t.plan
  pub key : key_within t.keyed ≡ Some k.1

pub has_value : (t : Transform) (k : Plan × List ℕ) (q : Request) (v : Value) → IsKey t k → kept.HasValue k t.authsize q v → HasValue t q v
unfolding some
has_value t k q v i h = record {
  taken = ap (λ p. takes p t.authsize q) (sym i.plan) ∙ h.0;
  has = rw i.key (ap some (ap (λ p. request_value (driver_of p) k.1 t.authsize q) (sym i.plan) ∙ h.1));
}

invalid_or_not : (t : Transform) (k : Plan × List ℕ) (q : Request) → IsKey t k → kept.IsInvalid k t.authsize q → IsNotTaken t q ⊎ HasValue t q invalid
invalid_or_not t k q i h = ⊎_elim (λ f. inl (inl (ap (λ p. takes p t.authsize q) (sym i.plan) ∙ f))) (λ v. inr (has_value t k q invalid i v)) h

-- bytes and what lies behind them
pub front_is : (made old : List ℕ) (n : ℕ) → length made ≡ n → take n (made ++ drop n old) ≡ made
front_is made old n e = subst (λ m. take m (made ++ drop n old) ≡ made) e (take-append_seam made (drop n old))

pub rest_is : (made old : List ℕ) (n : ℕ) → length made ≡ n → drop n (made ++ drop n old) ≡ drop n old
rest_is made old n e = subst (λ m. drop m (made ++ drop n old) ≡ drop n old) e (drop-append_seam made (drop n old))

pub refused : (t : Transform) (k : Plan × List ℕ) (q : Request) (room n : ℕ) (e : Errno) (old new : List ℕ) → IsKey t k
    → kept.IsRefused e k t.authsize q → Cleared n old new 0 → Answers t q room n (refusal e) old new 0
refused t k q room n e old new i h c =
    ⊎_elim
    (λ b. rw b.0 (has_value t k q bad_message i b.1, c))
    (λ v. rw v.0 (invalid_or_not t k q i v.1, inr c))
    h

-- what a text became that was copied to the front of `out`, and what lies behind it
pub text_copied : (text out mid : List ℕ) → mid ≡ text ++ drop (length text) out → take (length text) mid ≡ text
text_copied text out mid e = ap (take (length text)) e ∙ front_is text out (length text) refl

pub behind_copied : (text out mid : List ℕ) (n : ℕ) → length text ≤ n → mid ≡ text ++ drop (length text) out → drop n mid ≡ drop n out
behind_copied text out mid n l e = ap (drop n) e ∙ drop-append-drop (length text) out text n l refl

-- the front was cleared of what lay there
pub cleared : (text out mid after new : List ℕ) → mid ≡ text ++ drop (length text) out → drop (length text) after ≡ drop (length text) mid
    → new ≡ replicate (length text) 0 ++ drop (length text) after → Cleared (length text) out new 0
cleared text out mid after new e d c =
    (c ∙ ap (λ rest. replicate (length text) 0 ++ rest) (d ∙ behind_copied text out mid (length text) (omega arith) e), refl)

-- what became of the front of a buffer, by what became of the front alone
pub opened_in_front : (k : Plan × List ℕ) (iv aad : List ℕ) (r : Result (Unit {0}) Errno) (old whole rest new : List ℕ) (n tag : ℕ)
    → tag ≤ n → n ≤ length old → whole ≡ take n old → rest ≡ drop n old → length new ≡ length whole
    → MatchResult r
    (λ _. kept.HasValue k (length whole - (n - tag)) (unsealing iv aad whole) (bytes (take (n - tag) new)))
    (λ e. kept.IsRefused e k (length whole - (n - tag)) (unsealing iv aad whole) × (new ≡ whole))
    → MatchResult r
    (λ _. kept.HasValue k tag (unsealing iv aad (take n old)) (bytes (take (n - tag) (new ++ rest))))
    (λ e. kept.IsRefused e k tag (unsealing iv aad (take n old)) × (new ++ rest ≡ old))
opened_in_front k iv aad r old whole rest new n tag within long front back same h = by_result r h
  where
    size : length whole - (n - tag) ≡ tag
    size = omega (arith, ap length front, length-take-le n old long)

    made : take (n - tag) (new ++ rest) ≡ take (n - tag) new
    made = take-append-le (n - tag) new rest (omega (arith, same, ap length front, length-take-le n old long))

    by_result : (r : Result (Unit {0}) Errno)
        → MatchResult r
        (λ _. kept.HasValue k (length whole - (n - tag)) (unsealing iv aad whole) (bytes (take (n - tag) new)))
        (λ e. kept.IsRefused e k (length whole - (n - tag)) (unsealing iv aad whole) × (new ≡ whole))
        → MatchResult r
        (λ _. kept.HasValue k tag (unsealing iv aad (take n old)) (bytes (take (n - tag) (new ++ rest))))
        (λ e. kept.IsRefused e k tag (unsealing iv aad (take n old)) × (new ++ rest ≡ old))
    by_result (Ok x) h = rw (made, ← front) (subst (λ m. kept.HasValue k m (unsealing iv aad whole) (bytes (take (n - tag) new))) size h)
    by_result (Err e) h = (
      rw (← front) (subst (λ m. kept.IsRefused e k m (unsealing iv aad whole)) size h.0),
      ap₂ (λ a b. a ++ b) (h.1 ∙ front) back ∙ take-append-drop n old,
    )

-- a decryption that is refused once the ciphertext lies in `out`
pub decryption_refused : (t : Transform) (k : Plan × List ℕ) (iv aad text sealed tag out mid after new : List ℕ) (e : Errno) (status : Status)
    → IsKey t k → t.authsize ≤ length text → sealed ≡ take (length text - t.authsize) text → tag ≡ drop (length text - t.authsize) text
    → mid ≡ sealed ++ drop (length sealed) out
    → kept.IsRefused e k (length tag) (unsealing iv aad (take (length sealed) mid ++ tag))
    → drop (length sealed) after ≡ drop (length sealed) mid
    → new ≡ replicate (length sealed) 0 ++ drop (length sealed) after
    → status ≡ refusal e
    → Answers t (unsealing iv aad text) (length text - t.authsize) (length text - t.authsize) status out new 0
decryption_refused t k iv aad text sealed tag out mid after new e status i long front back m r d c s =
    let size : length sealed ≡ length text - t.authsize = ap length front ∙ length-take-le (length text - t.authsize) text (omega arith) in
    let tag_size : length tag ≡ t.authsize = omega (arith, ap length back, length-drop (length text - t.authsize) text) in
    let whole_text : take (length sealed) mid ++ tag ≡ text =
    ap₂ (λ a b. a ++ b) (text_copied sealed out mid m ∙ front) back ∙ take-append-drop (length text - t.authsize) text in
    let right = subst (λ n. kept.IsRefused e k n (unsealing iv aad (take (length sealed) mid ++ tag))) tag_size r in
    rw s
    (refused t k (unsealing iv aad text) (length text - t.authsize) (length text - t.authsize) e out new i
    (subst (λ x. kept.IsRefused e k t.authsize (unsealing iv aad x)) whole_text right)
    (subst (λ n. Cleared n out new 0) size (cleared sealed out mid after new m d c)))

-- a text that was copied to the front of `out`, and sealed there
pub gave_copied : (t : Transform) (k : Plan × List ℕ) (iv aad text out mid new : List ℕ) (n : ℕ) → IsKey t k → n ≡ length text → n + t.authsize ≤ length out
    → mid ≡ text ++ drop (length text) out
    → kept.HasValue k t.authsize (sealing iv aad (take n mid)) (bytes (take (n + t.authsize) new))
    → drop (n + t.authsize) new ≡ drop (n + t.authsize) mid → length new ≡ length mid
    → Gave t (sealing iv aad text) out new (n + t.authsize)
gave_copied t k iv aad text out mid new n i s room m h rest long =
    let copied : take n mid ≡ text = ap (λ m. take m mid) s ∙ text_copied text out mid m in
    record {
      value = has_value t k _ _ i (subst (λ x. kept.HasValue k t.authsize (sealing iv aad x) (bytes (take (n + t.authsize) new))) copied h);
      fits = omega (arith, s, long, ap length m, length-append text (drop (length text) out), length-drop (length text) out);
      rest = rest ∙ behind_copied text out mid (n + t.authsize) (omega arith) m;
    }

-- the pieces of a text that were gathered at the front of `out`
pub whole_gathered : (text out mid : List ℕ) (n : ℕ) → n ≡ length text → mid ≡ take n (drop 0 text) ++ drop n out → mid ≡ text ++ drop (length text) out
whole_gathered text out mid n s m = m ∙ ap₂ (λ a b. a ++ b) (take_all n text (omega (arith, s))) (ap (λ k. drop k out) s)

-- the tag that was gathered at the front of its room
pub tag_gathered : (text room made : List ℕ) (n size : ℕ) → n + size ≡ length text → made ≡ take size (drop n text) ++ drop size room → take size made ≡ drop n text
tag_gathered text room made n size e m =
    let long : length (drop n text) ≡ size = omega (arith, length-drop n text, e) in
    ap (take size) m ∙ front_is (take size (drop n text)) room size (length-take-le size (drop n text) (omega (arith, long))) ∙ take_all size (drop n text) (omega (arith, long))

-- a ciphertext that was gathered at the front of `out`, and opened there under a tag
pub gave_opened : (t : Transform) (k : Plan × List ℕ) (iv aad text out mid new tag : List ℕ) (n : ℕ)
    → IsKey t k → t.authsize ≤ length text → n ≡ length text - t.authsize → n ≤ length out
    → mid ≡ take n (drop 0 text) ++ drop n out → tag ≡ drop n text
    → kept.HasValue k (length tag) (unsealing iv aad (take n mid ++ tag)) (bytes (take n new))
    → drop n new ≡ drop n mid → length new ≡ length mid
    → Gave t (unsealing iv aad text) out new n
gave_opened t k iv aad text out mid new tag n i within s room m back h rest long =
    let front : length (take n text) ≡ n = length-take-le n text (omega (arith, s)) in
    let copied : take n mid ≡ take n text = ap (take n) m ∙ front_is (take n text) out n front in
    let whole_text : take n mid ++ tag ≡ text = ap₂ (λ a b. a ++ b) copied back ∙ take-append-drop n text in
    let tag_size : length tag ≡ t.authsize = omega (arith, ap length back, length-drop n text, s, within) in
    let under = subst (λ j. kept.HasValue k j (unsealing iv aad (take n mid ++ tag)) (bytes (take n new))) tag_size h in
    record {
      value = has_value t k _ _ i (subst (λ x. kept.HasValue k t.authsize (unsealing iv aad x) (bytes (take n new))) whole_text under);
      fits = omega (arith, long, ap length m, length-append (take n text) (drop n out), front, length-drop n out, room);
      rest = rest ∙ (ap (drop n) m ∙ rest_is (take n text) out n front);
    }

-- one that is refused
pub gathered_refused : (t : Transform) (k : Plan × List ℕ) (iv aad text out mid after new tag : List ℕ) (n : ℕ) (e : Errno) (status : Status)
    → IsKey t k → t.authsize ≤ length text → n ≡ length text - t.authsize
    → mid ≡ take n (drop 0 text) ++ drop n out → tag ≡ drop n text
    → kept.IsRefused e k (length tag) (unsealing iv aad (take n mid ++ tag))
    → drop n after ≡ drop n mid → new ≡ replicate n 0 ++ drop n after → status ≡ refusal e
    → Answers t (unsealing iv aad text) (length text - t.authsize) (length text - t.authsize) status out new 0
gathered_refused t k iv aad text out mid after new tag n e status i within s m back r rest clear same =
    let size : n ≡ length (take n text) = sym (length-take-le n text (omega (arith, s))) in
    decryption_refused t k iv aad text (take n text) tag out mid after new e status i within
    (ap (λ j. take j text) s)
    (back ∙ ap (λ j. drop j text) s)
    (m ∙ ap (λ j. take n text ++ drop j out) size)
    (subst (λ j. kept.IsRefused e k (length tag) (unsealing iv aad (take j mid ++ tag))) size r)
    (subst (λ j. drop j after ≡ drop j mid) size rest)
    (subst (λ j. new ≡ replicate j 0 ++ drop j after) size clear)
    same

-- a text is its front and the rest
pub ruleset whole = take-append-drop
