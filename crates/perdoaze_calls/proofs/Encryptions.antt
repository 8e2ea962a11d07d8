-- Several encryptions, of which one comes to its answer.
use Rattle.std.proofs.Common.{◌≡◌, ◌≢◌, ℕ, ℤ, true, ◌<◌, ◌≤◌, ◌+◌, ◌%◌, ◌^◌, List, [], map, take, drop, length, get_or, set, slice_index_or, Some, refl, sym, ap, subst, ◌∙◌, arith, inl, inr}
use Rattle.std.proofs.lemmas.Bool.{cases_lt}
use Rattle.std.proofs.Math.ListN.{get_or-map as get_or_of-map}
use Rattle.std.proofs.lemmas.List.{ext_get_or, get_or_past, get_or-map, get_or-set_other, get_or-set_same, length-map, map-set}
use Rattle.std.proofs.lemmas.Simd.{map-map}
use Rattle.std_defs.specs.Value.Value.{bytes}
use Rattle.templates.specs.declared.driver_plans.Plan.{Plan}
use Rattle.jobs_in_step.specs.Steps.{sealed_by, takes_associated}
use Rattle.jobs_in_step.specs.declared.keys.StepKey.{StepKey}
use Rattle.transforms.specs.Asked.{takes}
use Rattle.transforms.specs.Drivers.{driver_of}
use Rattle.transforms.specs.InPlace as kept
use Rattle.transforms.specs.InPlace.{sealing}
use Rattle.transforms.specs.RequestValue.{request_value}
use Rattle.transforms.specs.declared.request.Dir.TheVariants.{Enc}
use Rattle.transforms.specs.declared.request.Request.{Request}
use Rattle.perdoaze_calls.proofs.Answering.{IsKey, has_value}
use Rattle.perdoaze_calls.specs.Many.{CameTo, FitsInStep, question_of, iv_in, aad_in, len_in, written_in, status_in, bytes_in}
use Rattle.piece_modes.specs.Pieces.{size_of}
use Rattle.perdoaze_calls.specs.Requests.{Gave, EncryptsWithin}
use Rattle.perdoaze_calls.specs.Status.{code_of}
use Rattle.perdoaze_calls.specs.declared.encryption.Encryption.{Encryption}
use Rattle.piece_modes.specs.declared.piece.PieceMut.{PieceMut}
use Rattle.perdoaze_calls.specs.declared.status.Status.{Status}
use Rattle.perdoaze_calls.specs.declared.status.Status.TheVariants.{Done}
use Rattle.perdoaze_calls.specs.declared.transform.Transform.{Transform}

-- a field of the elements of a list, where one element changes
module _ {A B : Type 0} (f : A → B) (xs : List A) (n : ℕ) (d : B) where
  pub field_at : (x : A) → n < length xs → f (get_or xs n x) ≡ slice_index_or (map f xs) n d
  field_at x lt = sym (get_or-map f xs n x d lt)

  pub field_past : length xs ≤ n → slice_index_or (map f xs) n d ≡ d
  field_past le = get_or_past (map f xs) n d (omega (arith, le, length-map xs f))

  pub field_set : (x : A) → n < length xs → slice_index_or (map f (set xs n x)) n d ≡ f x
  field_set x lt =
      ap (λ (ys : List B). slice_index_or ys n d) (map-set f xs n x) ∙ get_or-set_same (map f xs) n (f x) d (omega (arith, lt, length-map xs f))

  pub field_others : (k : ℕ) (x : A) → k ≢ n → slice_index_or (map f (set xs n x)) k d ≡ slice_index_or (map f xs) k d
  field_others k x other = ap (λ (ys : List B). slice_index_or ys k d) (map-set f xs n x) ∙ get_or-set_other (map f xs) n k (f x) d other

-- the questions are the same
module _ (xs ys : List Encryption) (same : map question_of xs ≡ map question_of ys) where
  part : {B : Type 0} (f : List ℕ × List ℕ × ℕ → B) → map (λ e. f (question_of e)) xs ≡ map (λ e. f (question_of e)) ys
  part {B} f = sym (map-map f question_of xs) ∙ ap (map f) same ∙ map-map f question_of ys

  pub iv_kept : (i : ℕ) → iv_in xs i ≡ iv_in ys i
  iv_kept i = ap (λ (zs : List (List ℕ)). slice_index_or zs i []) (part (λ q. q.0))

  pub aad_kept : (i : ℕ) → aad_in xs i ≡ aad_in ys i
  aad_kept i = ap (λ (zs : List (List ℕ)). slice_index_or zs i []) (part (λ q. q.1))

  pub len_kept : (i : ℕ) → len_in xs i ≡ len_in ys i
  len_kept i = ap (λ (zs : List ℕ). slice_index_or zs i 0) (part (λ q. q.2))

-- an answer that stays
pub came_stays : (t : Transform) (old was now : List Encryption) (before been after : List PieceMut) (k : ℕ)
    → status_in now k ≡ status_in was k → written_in now k ≡ written_in was k → bytes_in after k ≡ bytes_in been k
    → CameTo (Some t) old was before been k → CameTo (Some t) old now before after k
came_stays t old was now before been after k s w b came = (came.0, s ∙ came.1, rw (b, w) came.2)

-- an answer that was given
pub came_now : (t : Transform) (old now : List Encryption) (before after : List PieceMut) (k : ℕ) (iv aad : List ℕ) (len : ℕ) (status : Status) (code : ℤ) (from to : List ℕ) (written : ℕ)
    → EncryptsWithin t iv aad len status from to written → code ≡ code_of status
    → iv ≡ iv_in old k → aad ≡ aad_in old k → len ≡ len_in old k → from ≡ bytes_in before k
    → status_in now k ≡ code → bytes_in after k ≡ to → written_in now k ≡ written → CameTo (Some t) old now before after k
came_now t old now before after k iv aad len status code from to written came c i a l f s b w =
    (status, s ∙ c, rw (← i, ← a, ← l, ← f, b, w) came)

-- the same lists by other names
pub came_from : (t : Transform) (old was now : List Encryption) (before been after : List PieceMut) (k : ℕ) → was ≡ old → been ≡ before
    → CameTo (Some t) was now been after k → CameTo (Some t) old now before after k
came_from t old was now before been after k e f came =
    subst (λ (a : List Encryption). CameTo (Some t) a now before after k) e (subst (λ (b : List PieceMut). CameTo (Some t) was now b after k) f came)

-- buffers that keep their lengths
size_at : (xs : List PieceMut) (i : ℕ) → get_or (map size_of xs) i 0 ≡ length (bytes_in xs i)
size_at xs i =
    ap (λ (zs : List ℕ). get_or zs i 0) (sym (map-map length (λ (p : PieceMut). p.bytes.now) xs))
    ∙ get_or_of-map length (map (λ (p : PieceMut). p.bytes.now) xs) i []

pub sizes_same : (xs ys : List PieceMut) → length xs ≡ length ys → length ys ≤ 8 → ((n : ℕ) → n < 8 → length (bytes_in xs n) ≡ length (bytes_in ys n))
    → map size_of xs ≡ map size_of ys
sizes_same xs ys count most same =
    ext_get_or 0 (map size_of xs) (map size_of ys) (length-map xs size_of ∙ count ∙ sym (length-map ys size_of))
    (λ i lt. size_at xs i ∙ same i (omega (arith, lt, length-map xs size_of, count, most)) ∙ sym (size_at ys i))

-- element i as the functions see it
module _ (asked : List Encryption) (i : ℕ) (d : Encryption) (inside : i < length asked) where
  pub short_enough : (tag : ℕ) → len_in asked i < 2 ^ 32 → tag ≤ 32 → (get_or asked i d).len + tag < 2 ^ 64
  short_enough tag short few = omega (arith, field_at (λ (e : Encryption). e.len) asked i 0 d inside, short, few)

  pub fits_here : (key : StepKey) (tag : ℕ) (buffers : List PieceMut) (b : PieceMut) → i < length buffers
      → FitsInStep key tag (get_or asked i d).iv.now (get_or asked i d).aad.now (get_or asked i d).len (length (get_or buffers i b).bytes.now)
      → FitsInStep key tag (iv_in asked i) (aad_in asked i) (len_in asked i) (length (bytes_in buffers i))
  fits_here key tag buffers b within f =
      let iv = field_at (λ (e : Encryption). e.iv.now) asked i [] d inside in
      let aad = field_at (λ (e : Encryption). e.aad.now) asked i [] d inside in
      let len = field_at (λ (e : Encryption). e.len) asked i 0 d inside in
      let room = ap length (field_at (λ (p : PieceMut). p.bytes.now) buffers i [] b within) in
      record {
        iv_long = sym (ap length iv) ∙ f.iv_long;
        blocks = omega (arith, len, f.blocks);
        short = omega (arith, len, f.short);
        aad_short = omega (arith, ap length aad, f.aad_short);
        associated = sym (ap (λ (x : List ℕ). takes_associated key (length x)) aad) ∙ f.associated;
        fits = omega (arith, len, room, f.fits);
      }

-- a request that was sealed in step
pub gave_in_step : (t : Transform) (k : Plan × List ℕ) (iv aad old new : List ℕ) (len : ℕ) → IsKey t k
    → kept.HasValue k t.authsize (sealing iv aad (take len old)) (bytes (take (len + t.authsize) new))
    → drop (len + t.authsize) new ≡ drop (len + t.authsize) old → length new ≡ length old → len + t.authsize ≤ length old
    → Gave t (sealing iv aad (take len old)) old new (len + t.authsize)
gave_in_step t k iv aad old new len i value rest long fits = record {
  value = has_value t k (sealing iv aad (take len old)) (bytes (take (len + t.authsize) new)) i value;
  fits = omega (arith, long, fits);
  rest = rest;
}

-- what sealing in step asks for
pub front_ready : (key : StepKey) (tag : ℕ) (asked : List Encryption) (buffers : List PieceMut) (n len : ℕ) (aad : List ℕ) → len ≡ len_in asked n → aad ≡ aad_in asked n
    → length asked ≡ length buffers
    → ((i : ℕ) → i < length asked → FitsInStep key tag (iv_in asked i) (aad_in asked i) (len_in asked i) (length (bytes_in buffers i)))
    → (len % 16 ≡ 0) × (len ≤ length (bytes_in buffers n)) × (length aad + len < 2 ^ 63) × (n < length buffers → len + tag ≤ length (bytes_in buffers n))
front_ready key tag asked buffers n len aad l a count fit = elim (cases_lt n (length asked)) [
  | inl inside ↦
      let f = fit n inside in
      (omega (arith, l, f.blocks), omega (arith, l, f.fits), omega (arith, l, ap length a, f.short, f.aad_short), λ lt. omega (arith, l, f.fits))
  | inr past ↦
      let none : len ≡ 0 = l ∙ field_past (λ (e : Encryption). e.len) asked n 0 past in
      let empty : aad ≡ [] = a ∙ field_past (λ (e : Encryption). e.aad.now) asked n [] past in
      (omega (arith, none), omega (arith, none), omega (arith, none, ap length empty), λ lt. omega (arith, lt, past, count))
]

-- the answer to a request that was sealed in step
pub came_in_step : (t : Transform) (k : Plan × List ℕ) (key : StepKey) (old now : List Encryption) (before after : List PieceMut) (i : ℕ) (iv aad : List ℕ) (len : ℕ)
    → IsKey t k → FitsInStep key t.authsize (iv_in old i) (aad_in old i) (len_in old i) (length (bytes_in before i))
    → ((n : ℕ) (q : Request) → q.dir ≡ Enc → sealed_by key n q ≡ request_value (driver_of k.0) k.1 n q)
    → ((n : ℕ) (q : Request) → q.dir ≡ Enc → length q.iv ≡ 16 → takes_associated key (length q.aad) ≡ true → takes k.0 n q ≡ true)
    → iv ≡ iv_in old i → aad ≡ aad_in old i → len ≡ len_in old i
    → bytes (take (len + t.authsize) (bytes_in after i)) ≡ sealed_by key t.authsize (sealing iv aad (take len (bytes_in before i)))
    → drop (len + t.authsize) (bytes_in after i) ≡ drop (len + t.authsize) (bytes_in before i)
    → length (bytes_in after i) ≡ length (bytes_in before i)
    → status_in now i ≡ code_of Done → written_in now i ≡ len_in old i + t.authsize → CameTo (Some t) old now before after i
came_in_step t k key old now before after i iv aad len is fit values taken a b l sealed rest long s w =
    let n : ℕ = len_in old i in
    let size : ℕ = t.authsize in
    let text : List ℕ = take n (bytes_in before i) in
    let q : Request = sealing (iv_in old i) (aad_in old i) text in
    let made : bytes (take (n + size) (bytes_in after i)) ≡ sealed_by key size q =
    ap (λ (m : ℕ). bytes (take (m + size) (bytes_in after i))) (sym l) ∙ sealed
    ∙ (ap (λ (m : ℕ). sealed_by key size (sealing iv aad (take m (bytes_in before i)))) l
    ∙ (ap (λ (v : List ℕ). sealed_by key size (sealing v aad text)) a ∙ ap (λ (v : List ℕ). sealed_by key size (sealing (iv_in old i) v text)) b)) in
    let behind : drop (n + size) (bytes_in after i) ≡ drop (n + size) (bytes_in before i) =
    ap (λ (m : ℕ). drop (m + size) (bytes_in after i)) (sym l) ∙ rest ∙ ap (λ (m : ℕ). drop (m + size) (bytes_in before i)) l in
    let gave = gave_in_step t k (iv_in old i) (aad_in old i) (bytes_in before i) (bytes_in after i) n is
    (taken size q refl fit.iv_long fit.associated, sym (values size q refl) ∙ sym made) behind long fit.fits in
    (Done, s, rw w gave)
