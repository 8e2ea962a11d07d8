-- Live transforms by their numbers and by their labels.
use Rattle.std.proofs.Common.{◌≡◌, ◌≢◌, ℕ, ◌+◌, ◌<◌, Bool, true, false, cond, List, [], ◌∷◌, ◌++◌, length, Option, Some, None, refl, sym, ap, subst, ◌∙◌, arith}
use Rattle.std.specs.Prelude.{◌==◌, All, find, nat_lt}
use Rattle.std.specs.BTreeMap.{UpdatesBy, get, get_by, insert_entry, is_at}
use Rattle.std.specs.Cmp.Lexicographic.{slice_cmp}
use Rattle.std.specs.List.{position_from}
use Rattle.std.specs.List.Sorted.{IsStrictlySortedBy}
use Rattle.std.specs.Map.{IsKeyTest, AreApart, KeepsOthers, keys_of, lookup, remove_entry, set_value, values_of}
use Rattle.std.specs.Ordering.{is_eq, nat_cmp}
use Rattle.std.specs.Str.{bytes_eq}
use Rattle.std.specs.declared.cmp.Ordering.TheVariants.{Less, Equal, Greater}
use Rattle.std.specs.declared.collections.BTreeMap.{BTreeMap}
use Rattle.std.specs.Global.{Global}
use Rattle.std.specs.Cmp.{nat_cmp_is}
use Rattle.std.specs.Ordering.{match_ordering}
use Rattle.std.proofs.lemmas.Bool.{eqb-true, false_from_ne_true}
use Rattle.std.proofs.lemmas.Cmp.{eq_by_cmp_equiv, nat_list_cmp_total, nat_list_eq_equiv}
use Rattle.std.proofs.lemmas.List.Elements.{All-cons, All-head, All-nil, All-push, All-tail}
use Rattle.std.proofs.lemmas.Map.Keys.{sorted_tail}
use Rattle.std.proofs.lemmas.Map.Text.{is_eq-slice_cmp}
use Rattle.std.proofs.lemmas.Map.Views.{All-after_first, All-map-remove_entry}
use Rattle.std.proofs.lemmas.Slice.Eq.{bytes_eq-Decides}
use Rattle.dialogues.specs.ScriptState.{Live, is_of, removed, replaced}
use Rattle.script_session.specs.Filed.{AreFiled, led_to, lives_of, number_of}
use Rattle.script_session.specs.declared.lives.LiveTransforms.{LiveTransforms}

abbrev pub Entries : Type 0
Entries = List (ℕ × Live)

-- ---- what a label finds

-- a label that has a number has a place in the state's list
pub place-at : (label : List ℕ) (es : Entries) (i n : ℕ) → number_of label es ≡ Some n → (place : ℕ) × (position_from (is_of label) i (values_of es) ≡ Some place)
place-at label [] i n e = absurd cc
place-at label (x ∷ xs) i n e = first (is_of label x.1) e (place-at label xs (i + 1) n)
  where
    first : (b : Bool) → cond b (Some x.0) (number_of label xs) ≡ Some n → (number_of label xs ≡ Some n → (place : ℕ) × (position_from (is_of label) (i + 1) (values_of xs) ≡ Some place))
        → (place : ℕ) × (cond b (Some i) (position_from (is_of label) (i + 1) (values_of xs)) ≡ Some place)
    first true e go = (i, refl)
    first false e go = go e

pub nobody-at : (label : List ℕ) (es : Entries) → number_of label es ≡ None → find (is_of label) (values_of es) ≡ None
nobody-at label [] e = refl
nobody-at label (x ∷ xs) e = first (is_of label x.1) e (nobody-at label xs)
  where
    first : (b : Bool) → cond b (Some x.0) (number_of label xs) ≡ None → (number_of label xs ≡ None → find (is_of label) (values_of xs) ≡ None) → cond b (Some x.1) (find (is_of label) (values_of xs)) ≡ None
    first true e go = absurd cc
    first false e go = go e

pub nobody-filed : (label : List ℕ) (es : Entries) → find (is_of label) (values_of es) ≡ None → number_of label es ≡ None
nobody-filed label [] e = refl
nobody-filed label (x ∷ xs) e = first (is_of label x.1) e (nobody-filed label xs)
  where
    first : (b : Bool) → cond b (Some x.1) (find (is_of label) (values_of xs)) ≡ None → (find (is_of label) (values_of xs) ≡ None → number_of label xs ≡ None) → cond b (Some x.0) (number_of label xs) ≡ None
    first true e go = absurd cc
    first false e go = go e

-- ---- numbers

-- a number that is found is one of them
found-key : (P : ℕ → Type 0) (label : List ℕ) (es : Entries) (n : ℕ) → All P (keys_of es) → number_of label es ≡ Some n → P n
found-key P label [] n all e = absurd cc
found-key P label (x ∷ xs) n all e = first (is_of label x.1) e (found-key P label xs n (All-tail P x.0 (keys_of xs) all))
  where
    first : (b : Bool) → cond b (Some x.0) (number_of label xs) ≡ Some n → (number_of label xs ≡ Some n → P n) → P n
    first true e go = (let same : x.0 ≡ n = cc in subst P same (All-head P x.0 (keys_of xs) all))
    first false e go = go e

at-own : (x n : ℕ) → x ≡ n → is_at (nat_cmp n) x ≡ true
at-own x n same = sym (ap is_eq (nat_cmp_is n x Equal (sym same)))

is-other : (a b : Bool) → b ≡ false → is_eq (cond a Less (cond b Equal Greater)) ≡ false
is-other true b e = refl
is-other false true e = absurd cc
is-other false false e = refl

at-other : (n x : ℕ) → n ≢ x → is_at (nat_cmp n) x ≡ false
at-other n x other = is-other (nat_lt n x) (n == x) (false_from_ne_true (n == x) (λ h. other (eqb-true n x h)))

-- an earlier number is not a later one
not-first : (x n : ℕ) → nat_cmp x n ≡ Less → is_at (nat_cmp n) x ≡ false
not-first x n e = at-other n x (λ same. let both : Equal ≡ Less = nat_cmp_is x n Equal (sym same) ∙ e in absurd cc)

-- ---- what a number has is what the label finds

module _ (label : List ℕ) (n : ℕ) where
  later : (x : ℕ × Live) (xs : Entries) → IsStrictlySortedBy nat_cmp (keys_of (x ∷ xs)) → number_of label xs ≡ Some n → is_at (nat_cmp n) x.0 ≡ false
  later x xs ascend e = not-first x.0 n (found-key (λ k. nat_cmp x.0 k ≡ Less) label xs n (All-after_first nat_cmp x.0 (keys_of xs) ascend) e)

  pub get-found : (es : Entries) → IsStrictlySortedBy nat_cmp (keys_of es) → number_of label es ≡ Some n → lookup (is_at (nat_cmp n)) es ≡ find (is_of label) (values_of es)
  get-found [] ascend e = refl
  get-found (x ∷ xs) ascend e = first (is_of label x.1) e (get-found xs (sorted_tail nat_cmp x.0 (keys_of xs) ascend))
    where
      first : (b : Bool) → cond b (Some x.0) (number_of label xs) ≡ Some n → (number_of label xs ≡ Some n → lookup (is_at (nat_cmp n)) xs ≡ find (is_of label) (values_of xs))
          → cond (is_at (nat_cmp n) x.0) (Some x.1) (lookup (is_at (nat_cmp n)) xs) ≡ cond b (Some x.1) (find (is_of label) (values_of xs))
      first true e go = (let same : x.0 ≡ n = cc in ap (λ t. cond t (Some x.1) (lookup (is_at (nat_cmp n)) xs)) (at-own x.0 n same))
      first false e go = ap (λ t. cond t (Some x.1) (lookup (is_at (nat_cmp n)) xs)) (later x xs ascend e) ∙ go e

  -- what is written through a loan of it
  pub set-found : (es : Entries) (new : Live) → new.label ≡ label → IsStrictlySortedBy nat_cmp (keys_of es) → number_of label es ≡ Some n → values_of (set_value (is_at (nat_cmp n)) es new) ≡ replaced new (values_of es)
  set-found [] new l ascend e = refl
  set-found (x ∷ xs) new l ascend e = first (is_of label x.1) (ap (bytes_eq x.1.label) l) e (set-found xs new l (sorted_tail nat_cmp x.0 (keys_of xs) ascend))
    where
      first : (b : Bool) → is_of new.label x.1 ≡ b → cond b (Some x.0) (number_of label xs) ≡ Some n → (number_of label xs ≡ Some n → values_of (set_value (is_at (nat_cmp n)) xs new) ≡ replaced new (values_of xs))
          → values_of (set_value (is_at (nat_cmp n)) (x ∷ xs) new) ≡ replaced new (values_of (x ∷ xs))
      first true is e go =
          let same : x.0 ≡ n = cc in
          ap (λ t. values_of (cond t ((x.0, new) ∷ xs) (x ∷ set_value (is_at (nat_cmp n)) xs new))) (at-own x.0 n same)
          ∙ sym (ap (λ t. cond t (new ∷ values_of xs) (x.1 ∷ replaced new (values_of xs))) is)
      first false is e go =
          ap (λ t. values_of (cond t ((x.0, new) ∷ xs) (x ∷ set_value (is_at (nat_cmp n)) xs new))) (later x xs ascend e)
          ∙ (ap (λ ls. x.1 ∷ ls) (go e) ∙ sym (ap (λ t. cond t (new ∷ values_of xs) (x.1 ∷ replaced new (values_of xs))) is))

  -- what is left without it
  pub removed-found : (es : Entries) → IsStrictlySortedBy nat_cmp (keys_of es) → number_of label es ≡ Some n → values_of (remove_entry (is_at (nat_cmp n)) es) ≡ removed label (values_of es)
  removed-found [] ascend e = refl
  removed-found (x ∷ xs) ascend e = first (is_of label x.1) e (removed-found xs (sorted_tail nat_cmp x.0 (keys_of xs) ascend))
    where
      first : (b : Bool) → cond b (Some x.0) (number_of label xs) ≡ Some n → (number_of label xs ≡ Some n → values_of (remove_entry (is_at (nat_cmp n)) xs) ≡ removed label (values_of xs))
          → values_of (remove_entry (is_at (nat_cmp n)) (x ∷ xs)) ≡ cond b (values_of xs) (x.1 ∷ removed label (values_of xs))
      first true e go = (let same : x.0 ≡ n = cc in ap (λ t. values_of (cond t xs (x ∷ remove_entry (is_at (nat_cmp n)) xs))) (at-own x.0 n same))
      first false e go = ap (λ t. values_of (cond t xs (x ∷ remove_entry (is_at (nat_cmp n)) xs))) (later x xs ascend e) ∙ ap (λ ls. x.1 ∷ ls) (go e)

-- ---- they stay filed where one is written and keeps its label

module _ (test : ℕ → Bool) (old new : Live) (same : new.label ≡ old.label) where
  pub number-set : (label : List ℕ) (es : Entries) → lookup test es ≡ Some old → number_of label (set_value test es new) ≡ number_of label es
  number-set label [] here = refl
  number-set label (x ∷ xs) here = first (test x.0) here (number-set label xs)
    where
      first : (b : Bool) → cond b (Some x.1) (lookup test xs) ≡ Some old → (lookup test xs ≡ Some old → number_of label (set_value test xs new) ≡ number_of label xs)
          → number_of label (cond b ((x.0, new) ∷ xs) (x ∷ set_value test xs new)) ≡ number_of label (x ∷ xs)
      first true here go = (let is : x.1 ≡ old = cc in ap (λ l. cond (bytes_eq l label) (Some x.0) (number_of label xs)) (same ∙ sym (ap (λ (o : Live). o.label) is)))
      first false here go = ap (λ o. cond (is_of label x.1) (Some x.0) o) (go here)

  -- what holds of each number and label still does
  All-set : (P : ℕ → List ℕ → Type 0) (es : Entries) → lookup test es ≡ Some old → All (λ (e : ℕ × Live). P e.0 e.1.label) es → All (λ (e : ℕ × Live). P e.0 e.1.label) (set_value test es new)
  All-set P [] here all = all
  All-set P (x ∷ xs) here all = first (test x.0) here (λ h. All-set P xs h (All-tail (λ (e : ℕ × Live). P e.0 e.1.label) x xs all))
    where
      first : (b : Bool) → cond b (Some x.1) (lookup test xs) ≡ Some old → (lookup test xs ≡ Some old → All (λ (e : ℕ × Live). P e.0 e.1.label) (set_value test xs new))
          → All (λ (e : ℕ × Live). P e.0 e.1.label) (cond b ((x.0, new) ∷ xs) (x ∷ set_value test xs new))
      first true here go =
          let is : x.1 ≡ old = cc in
          All-cons (λ (e : ℕ × Live). P e.0 e.1.label) (x.0, new) xs (subst (P x.0) (sym (same ∙ sym (ap (λ (o : Live). o.label) is))) (All-head (λ (e : ℕ × Live). P e.0 e.1.label) x xs all)) (All-tail (λ (e : ℕ × Live). P e.0 e.1.label) x xs all)
      first false here go = All-cons (λ (e : ℕ × Live). P e.0 e.1.label) x (set_value test xs new) (All-head (λ (e : ℕ × Live). P e.0 e.1.label) x xs all) (go here)

pub filed-set : (lives next : LiveTransforms) (n : ℕ) (old new : Live) → AreFiled lives → get nat_cmp lives.transforms n ≡ Some old → new.label ≡ old.label → next.labels ≡ lives.labels → next.next ≡ lives.next
    → next.transforms.entries ≡ set_value (is_at (nat_cmp n)) lives.transforms.entries new → keys_of next.transforms.entries ≡ keys_of lives.transforms.entries → AreFiled next
filed-set lives next n old new filed here same labels count set keys =
    let test = is_at (nat_cmp n) in
    let es = lives.transforms.entries in
    let numbers : (label : List ℕ) → number_of label next.transforms.entries ≡ number_of label es = λ label. ap (number_of label) set ∙ number-set test old new same label es here in
    record {
      ascend = subst (IsStrictlySortedBy nat_cmp) (sym keys) filed.ascend;
      led = λ label. ap (λ m. get_by (λ key. slice_cmp nat_cmp label key.items) m) labels ∙ (filed.led label ∙ sym (numbers label));
      apart = subst (All (λ (e : ℕ × Live). number_of e.1.label next.transforms.entries ≡ Some e.0)) (sym set)
          (All-set test old new same (λ k l. number_of l next.transforms.entries ≡ Some k) es here (each es filed.apart numbers));
      below = subst (λ m. All (λ k. k < m) (keys_of next.transforms.entries)) (sym count) (subst (All (λ k. k < lives.next)) (sym keys) filed.below);
    }
  where
    each : (es : Entries) → All (λ (e : ℕ × Live). number_of e.1.label lives.transforms.entries ≡ Some e.0) es → ((label : List ℕ) → number_of label next.transforms.entries ≡ number_of label lives.transforms.entries)
        → All (λ (e : ℕ × Live). number_of e.1.label next.transforms.entries ≡ Some e.0) es
    each [] all numbers = All-nil (λ (e : ℕ × Live). number_of e.1.label next.transforms.entries ≡ Some e.0)
    each (x ∷ xs) all numbers =
        let was = λ (e : ℕ × Live). number_of e.1.label lives.transforms.entries ≡ Some e.0 in
        All-cons (λ (e : ℕ × Live). number_of e.1.label next.transforms.entries ≡ Some e.0) x xs (numbers x.1.label ∙ All-head was x xs all) (each xs (All-tail was x xs all) numbers)

-- ---- labels, as `Map.Text` of std has it for `String` keys

apart_bytes : (bs cs ks : List ℕ) → bytes_eq bs cs ≡ false → is_eq (slice_cmp nat_cmp bs ks) ≡ true → is_eq (slice_cmp nat_cmp cs ks) ≡ false
apart_bytes bs cs ks n y =
    is_eq-slice_cmp cs ks ∙ (nat_list_eq_equiv.symm cs ks ∙ (sym (nat_list_eq_equiv.congr bs ks cs (sym (is_eq-slice_cmp bs ks) ∙ y)) ∙ n))

keeps_entries : {K X : Type 0} (eq : K → K → Bool) (test : K → Bool) (old new : List (K × X)) → KeepsOthers eq test old new → (other : K → Bool) → IsKeyTest eq other → AreApart test other → lookup other new ≡ lookup other old
unfolding KeepsOthers
keeps_entries eq test old new h = h

at_bytes : {W : Type 0} (f g : List ℕ → W) (bs : List ℕ) (w : W) → g bs ≡ w → ((cs : List ℕ) → bytes_eq bs cs ≡ false → g cs ≡ f cs) → (cs : List ℕ) (b : Bool) → bytes_eq bs cs ≡ b → g cs ≡ cond b w (f cs)
at_bytes f g bs w here other cs true e = subst (λ l. g l ≡ w) ((bytes_eq-Decides bs cs).0 e) here
at_bytes f g bs w here other cs false e = other cs e

module _ {K X : Type 0} (f : K → List ℕ) (bs : List ℕ) (m n : BTreeMap K X Global) (w : Option X) where
  pub updates-bytes : UpdatesBy (λ x y. slice_cmp nat_cmp (f x) (f y)) (λ k. slice_cmp nat_cmp bs (f k)) m n w
      → (cs : List ℕ) → get_by (λ k. slice_cmp nat_cmp cs (f k)) n ≡ cond (bytes_eq bs cs) w (get_by (λ k. slice_cmp nat_cmp cs (f k)) m)
  updates-bytes h cs =
      at_bytes (λ ds. get_by (λ k. slice_cmp nat_cmp ds (f k)) m) (λ ds. get_by (λ k. slice_cmp nat_cmp ds (f k)) n) bs w h.1
      (λ ds e. keeps_entries _ _ _ _ h.3 _ (λ x y. (eq_by_cmp_equiv nat_list_cmp_total).congr ds (f x) (f y)) (λ k. apart_bytes bs ds (f k) e)) cs (bytes_eq bs cs) refl

-- ---- one is added behind the others

above : (n x : ℕ) → x < n → nat_cmp n x ≡ Greater
above n x less = sym (nat_cmp_is n x Greater less)

not-above : (n x : ℕ) → x < n → is_at (nat_cmp n) x ≡ false
not-above n x less = ap is_eq (above n x less)

module _ (n : ℕ) (live : Live) where
  pub insert-last : (es : Entries) → All (λ k. k < n) (keys_of es) → insert_entry nat_cmp es n live ≡ es ++ (n, live) ∷ []
  insert-last [] all = refl
  insert-last (x ∷ xs) all =
      ap (λ o. match_ordering o ((n, live) ∷ x ∷ xs) ((x.0, live) ∷ xs) (x ∷ insert_entry nat_cmp xs n live)) (above n x.0 (All-head (λ k. k < n) x.0 (keys_of xs) all))
      ∙ ap (λ es. x ∷ es) (insert-last xs (All-tail (λ k. k < n) x.0 (keys_of xs) all))

  -- where memory is wanting for its label, it goes again
  pub remove-last : (es : Entries) → All (λ k. k < n) (keys_of es) → remove_entry (is_at (nat_cmp n)) (es ++ (n, live) ∷ []) ≡ es
  remove-last [] all = ap (λ t. cond t [] ((n, live) ∷ [])) (at-own n n refl)
  remove-last (x ∷ xs) all =
      ap (λ t. cond t (xs ++ (n, live) ∷ []) (x ∷ remove_entry (is_at (nat_cmp n)) (xs ++ (n, live) ∷ []))) (not-above n x.0 (All-head (λ k. k < n) x.0 (keys_of xs) all))
      ∙ ap (λ es. x ∷ es) (remove-last xs (All-tail (λ k. k < n) x.0 (keys_of xs) all))

  -- the labels that had a number keep it
  number-more : (label : List ℕ) (es : Entries) (m : ℕ) → number_of label es ≡ Some m → number_of label (es ++ (n, live) ∷ []) ≡ Some m
  number-more label [] m e = absurd cc
  number-more label (x ∷ xs) m e = first (is_of label x.1) e (number-more label xs m)
    where
      first : (b : Bool) → cond b (Some x.0) (number_of label xs) ≡ Some m → (number_of label xs ≡ Some m → number_of label (xs ++ (n, live) ∷ []) ≡ Some m) → cond b (Some x.0) (number_of label (xs ++ (n, live) ∷ [])) ≡ Some m
      first true e go = e
      first false e go = go e

  number-new : (label : List ℕ) (es : Entries) → number_of label es ≡ None → number_of label (es ++ (n, live) ∷ []) ≡ cond (is_of label live) (Some n) None
  number-new label [] e = refl
  number-new label (x ∷ xs) e = first (is_of label x.1) e (number-new label xs)
    where
      first : (b : Bool) → cond b (Some x.0) (number_of label xs) ≡ None → (number_of label xs ≡ None → number_of label (xs ++ (n, live) ∷ []) ≡ cond (is_of label live) (Some n) None)
          → cond b (Some x.0) (number_of label (xs ++ (n, live) ∷ [])) ≡ cond (is_of label live) (Some n) None
      first true e go = absurd cc
      first false e go = go e

  -- and its own label, which had none, leads to it
  pub number-push : (label : List ℕ) (es : Entries) → number_of live.label es ≡ None → number_of label (es ++ (n, live) ∷ []) ≡ cond (bytes_eq live.label label) (Some n) (number_of label es)
  number-push label es free = by_number (number_of label es) refl (is_of label live) refl
    where
      by_number : (o : Option ℕ) → number_of label es ≡ o → (b : Bool) → is_of label live ≡ b → number_of label (es ++ (n, live) ∷ []) ≡ cond b (Some n) (number_of label es)
      by_number None e true is = number-new label es e ∙ ap (λ t. cond t (Some n) None) is
      by_number None e false is = number-new label es e ∙ (ap (λ t. cond t (Some n) None) is ∙ sym e)
      by_number (Some m) e false is = number-more label es m e ∙ sym e
      by_number (Some m) e true is =
          let same : live.label ≡ label = (bytes_eq-Decides live.label label).0 is in
          let both : Some m ≡ None = sym e ∙ (ap (λ l. number_of l es) (sym same) ∙ free) in
          absurd cc

-- ---- one is taken out

one-number : (label other : List ℕ) (all : Entries) (m n : ℕ) → other ≡ label → number_of other all ≡ Some m → number_of label all ≡ Some n → m ≡ n
one-number label other all m n same e f = (let both : Some m ≡ Some n = sym e ∙ (ap (λ l. number_of l all) same ∙ f) in cc)

is-at-own : (a b : Bool) → is_eq (cond a Less (cond b Equal Greater)) ≡ true → b ≡ true
is-at-own true b e = absurd cc
is-at-own false true e = refl
is-at-own false false e = absurd cc

module _ (all : Entries) where
  abbrev pub IsApart : ℕ × Live → Type 0
  IsApart e = number_of e.1.label all ≡ Some e.0

  -- two of the same label have the same number, so behind the one that has it nobody has its label
  nobody-later : (label : List ℕ) (n : ℕ) (xs : Entries) → number_of label all ≡ Some n → All IsApart xs → All (λ k. nat_cmp n k ≡ Less) (keys_of xs) → number_of label xs ≡ None
  nobody-later label n [] own apart less = refl
  nobody-later label n (x ∷ xs) own apart less = first (is_of label x.1) refl (nobody-later label n xs own (All-tail IsApart x xs apart) (All-tail (λ k. nat_cmp n k ≡ Less) x.0 (keys_of xs) less))
    where
      first : (b : Bool) → is_of label x.1 ≡ b → number_of label xs ≡ None → cond b (Some x.0) (number_of label xs) ≡ None
      first true is rest =
          let same : x.1.label ≡ label = (bytes_eq-Decides x.1.label label).0 is in
          let equal : x.0 ≡ n = one-number label x.1.label all x.0 n same (All-head IsApart x xs apart) own in
          let both : Equal ≡ Less = nat_cmp_is n x.0 Equal (sym equal) ∙ All-head (λ k. nat_cmp n k ≡ Less) x.0 (keys_of xs) less in
          absurd cc
      first false is rest = rest

  module _ (n : ℕ) (live : Live) (own : number_of live.label all ≡ Some n) (label : List ℕ) where
    abbrev Removed : Entries → Type 0
    Removed es = number_of label (remove_entry (is_at (nat_cmp n)) es) ≡ cond (is_of label live) None (number_of label es)

    -- it is the first
    here-removed : (x : ℕ × Live) (xs : Entries) → is_at (nat_cmp n) x.0 ≡ true → x.1 ≡ live → All IsApart xs → All (λ k. nat_cmp x.0 k ≡ Less) (keys_of xs) → number_of label xs ≡ cond (is_of label live) None (number_of label (x ∷ xs))
    here-removed x xs at is apart less = by_label (is_of label live) refl
      where
        equal : n ≡ x.0
        equal = eqb-true n x.0 (is-at-own (nat_lt n x.0) (n == x.0) at)

        by_label : (t : Bool) → is_of label live ≡ t → number_of label xs ≡ cond t None (number_of label (x ∷ xs))
        by_label true t =
            let same : live.label ≡ label = (bytes_eq-Decides live.label label).0 t in
            nobody-later label n xs (ap (λ l. number_of l all) (sym same) ∙ own) apart (subst (λ k. All (λ q. nat_cmp k q ≡ Less) (keys_of xs)) (sym equal) less)
        by_label false t = sym (ap (λ b. cond b (Some x.0) (number_of label xs)) (ap (is_of label) is ∙ t))

    -- it stands further on
    later-removed : (x : ℕ × Live) (xs : Entries) → is_at (nat_cmp n) x.0 ≡ false → IsApart x → Removed xs → (b : Bool) → is_of label x.1 ≡ b
        → cond b (Some x.0) (number_of label (remove_entry (is_at (nat_cmp n)) xs)) ≡ cond (is_of label live) None (cond b (Some x.0) (number_of label xs))
    later-removed x xs at apart rest false is = rest
    later-removed x xs at apart rest true is = by_label (is_of label live) refl
      where
        by_label : (t : Bool) → is_of label live ≡ t → Some x.0 ≡ cond t None (Some x.0)
        by_label false t = refl
        by_label true t =
            let mine : live.label ≡ label = (bytes_eq-Decides live.label label).0 t in
            let its : x.1.label ≡ label = (bytes_eq-Decides x.1.label label).0 is in
            let equal : x.0 ≡ n = one-number live.label x.1.label all x.0 n (its ∙ sym mine) apart own in
            let both : true ≡ false = sym (at-own x.0 n equal) ∙ at in
            absurd cc

    pub number-removed : (es : Entries) → IsStrictlySortedBy nat_cmp (keys_of es) → lookup (is_at (nat_cmp n)) es ≡ Some live → All IsApart es → Removed es
    number-removed [] ascend here apart = absurd cc
    number-removed (x ∷ xs) ascend here apart = first (is_at (nat_cmp n) x.0) refl here (λ h. number-removed xs (sorted_tail nat_cmp x.0 (keys_of xs) ascend) h (All-tail IsApart x xs apart))
      where
        first : (b : Bool) → is_at (nat_cmp n) x.0 ≡ b → cond b (Some x.1) (lookup (is_at (nat_cmp n)) xs) ≡ Some live → (lookup (is_at (nat_cmp n)) xs ≡ Some live → Removed xs)
            → number_of label (cond b xs (x ∷ remove_entry (is_at (nat_cmp n)) xs)) ≡ cond (is_of label live) None (number_of label (x ∷ xs))
        first true at here go = (let is : x.1 ≡ live = cc in here-removed x xs at is (All-tail IsApart x xs apart) (All-after_first nat_cmp x.0 (keys_of xs) ascend))
        first false at here go = later-removed x xs at (All-head IsApart x xs apart) (go here) (is_of label x.1) refl

-- ---- the session's invariant after each

own-label : (label : List ℕ) → bytes_eq label label ≡ true
own-label label = (bytes_eq-Decides label label).1 refl

apart-push : (n : ℕ) (live : Live) (all es : Entries) → All (IsApart all) es → All (IsApart (all ++ (n, live) ∷ [])) es
apart-push n live all [] apart = All-nil (IsApart (all ++ (n, live) ∷ []))
apart-push n live all (x ∷ xs) apart =
    All-cons (IsApart (all ++ (n, live) ∷ [])) x xs (number-more n live x.1.label all x.0 (All-head (IsApart all) x xs apart)) (apart-push n live all xs (All-tail (IsApart all) x xs apart))

below-next : (n : ℕ) (ks : List ℕ) → All (λ k. k < n) ks → All (λ k. k < n + 1) ks
below-next n [] all = All-nil (λ k. k < n + 1)
below-next n (k ∷ ks) all = (let less = All-head (λ k. k < n) k ks all in All-cons (λ k. k < n + 1) k ks (omega (arith, less)) (below-next n ks (All-tail (λ k. k < n) k ks all)))

keys-push : (n : ℕ) (live : Live) (es : Entries) → keys_of (es ++ (n, live) ∷ []) ≡ keys_of es ++ n ∷ []
keys-push n live [] = refl
keys-push n live (x ∷ xs) = ap (λ ks. x.0 ∷ ks) (keys-push n live xs)

pub values-push : (n : ℕ) (live : Live) (es : Entries) → values_of (es ++ (n, live) ∷ []) ≡ values_of es ++ live ∷ []
values-push n live [] = refl
values-push n live (x ∷ xs) = ap (λ ls. x.1 ∷ ls) (values-push n live xs)

-- it is the last in the order of allocation
pub listed-push : (lives : LiveTransforms) (live : Live) (next : Entries) → AreFiled lives → next ≡ insert_entry nat_cmp lives.transforms.entries lives.next live → values_of next ≡ lives_of lives ++ live ∷ []
listed-push lives live next filed added =
    ap values_of (added ∙ insert-last lives.next live lives.transforms.entries filed.below) ∙ values-push lives.next live lives.transforms.entries

pub filed-push : (lives next : LiveTransforms) (live : Live) → AreFiled lives → number_of live.label lives.transforms.entries ≡ None → IsStrictlySortedBy nat_cmp (keys_of next.transforms.entries)
    → next.transforms.entries ≡ insert_entry nat_cmp lives.transforms.entries lives.next live → ((label : List ℕ) → led_to next label ≡ cond (bytes_eq live.label label) (Some lives.next) (led_to lives label)) → next.next ≡ lives.next + 1
    → AreFiled next
filed-push lives next live filed free ascend added led count =
    let n = lives.next in
    let es = lives.transforms.entries in
    let is : next.transforms.entries ≡ es ++ (n, live) ∷ [] = added ∙ insert-last n live es filed.below in
    let own : number_of live.label (es ++ (n, live) ∷ []) ≡ Some n = number-push n live live.label es free ∙ ap (λ t. cond t (Some n) (number_of live.label es)) (own-label live.label) in
    record {
      ascend = ascend;
      led = λ label. led label ∙ (ap (cond (bytes_eq live.label label) (Some n)) (filed.led label) ∙ (sym (number-push n live label es free) ∙ ap (number_of label) (sym is)));
      apart = subst (λ xs. All (IsApart xs) xs) (sym is) (All-push (IsApart (es ++ (n, live) ∷ [])) es (n, live) (apart-push n live es es filed.apart) own);
      below = subst (λ m. All (λ k. k < m) (keys_of next.transforms.entries)) (sym count)
          (subst (λ xs. All (λ k. k < n + 1) (keys_of xs)) (sym is) (subst (All (λ k. k < n + 1)) (sym (keys-push n live es)) (All-push (λ k. k < n + 1) (keys_of es) n (below-next n (keys_of es) filed.below) (omega arith))));
    }

module _ (n : ℕ) where
  All-removed : (P : ℕ × Live → Type 0) (es : Entries) → All P es → All P (remove_entry (is_at (nat_cmp n)) es)
  All-removed P [] all = all
  All-removed P (x ∷ xs) all = first (is_at (nat_cmp n) x.0) (All-removed P xs (All-tail P x xs all))
    where
      first : (b : Bool) → All P (remove_entry (is_at (nat_cmp n)) xs) → All P (cond b xs (x ∷ remove_entry (is_at (nat_cmp n)) xs))
      first true rest = All-tail P x xs all
      first false rest = All-cons P x (remove_entry (is_at (nat_cmp n)) xs) (All-head P x xs all) rest

  abbrev IsOther : ℕ × Live → Type 0
  IsOther e = is_at (nat_cmp n) e.0 ≡ false

  others-after : (x : ℕ) (xs : Entries) → x ≡ n → All (λ k. nat_cmp x k ≡ Less) (keys_of xs) → All IsOther xs
  others-after x [] same less = All-nil IsOther
  others-after x (y ∷ ys) same less =
      All-cons IsOther y ys (ap (λ k. is_eq (nat_cmp k y.0)) (sym same) ∙ ap is_eq (All-head (λ k. nat_cmp x k ≡ Less) y.0 (keys_of ys) less)) (others-after x ys same (All-tail (λ k. nat_cmp x k ≡ Less) y.0 (keys_of ys) less))

  none-left : (es : Entries) → IsStrictlySortedBy nat_cmp (keys_of es) → All IsOther (remove_entry (is_at (nat_cmp n)) es)
  none-left [] ascend = All-nil IsOther
  none-left (x ∷ xs) ascend = first (is_at (nat_cmp n) x.0) refl (none-left xs (sorted_tail nat_cmp x.0 (keys_of xs) ascend))
    where
      first : (b : Bool) → is_at (nat_cmp n) x.0 ≡ b → All IsOther (remove_entry (is_at (nat_cmp n)) xs) → All IsOther (cond b xs (x ∷ remove_entry (is_at (nat_cmp n)) xs))
      first true at rest = others-after x.0 xs (sym (eqb-true n x.0 (is-at-own (nat_lt n x.0) (n == x.0) at))) (All-after_first nat_cmp x.0 (keys_of xs) ascend)
      first false at rest = All-cons IsOther x (remove_entry (is_at (nat_cmp n)) xs) at rest

  module _ (live : Live) (all : Entries) (ascend : IsStrictlySortedBy nat_cmp (keys_of all)) (here : lookup (is_at (nat_cmp n)) all ≡ Some live) (apart : All (IsApart all) all) (own : number_of live.label all ≡ Some n) where
    abbrev left : Entries
    left = remove_entry (is_at (nat_cmp n)) all

    one-left : (x : ℕ × Live) → IsApart all x → IsOther x → IsApart left x
    one-left x was other = number-removed all n live own x.1.label all ascend here apart ∙ by_label (is_of x.1.label live) refl
      where
        by_label : (t : Bool) → is_of x.1.label live ≡ t → cond t None (number_of x.1.label all) ≡ Some x.0
        by_label false t = was
        by_label true t =
            let same : live.label ≡ x.1.label = (bytes_eq-Decides live.label x.1.label).0 t in
            let equal : x.0 ≡ n = one-number live.label x.1.label all x.0 n (sym same) was own in
            let both : true ≡ false = sym (at-own x.0 n equal) ∙ other in
            absurd cc

    each-left : (es : Entries) → All (IsApart all) es → All IsOther es → All (IsApart left) es
    each-left [] was other = All-nil (IsApart left)
    each-left (x ∷ xs) was other =
        All-cons (IsApart left) x xs (one-left x (All-head (IsApart all) x xs was) (All-head IsOther x xs other)) (each-left xs (All-tail (IsApart all) x xs was) (All-tail IsOther x xs other))

    pub apart-left : All (IsApart left) left
    apart-left = each-left left (All-removed (IsApart all) all apart) (none-left all ascend)

-- the number of the one that a number has
pub number-here : (n : ℕ) (live : Live) (all es : Entries) → lookup (is_at (nat_cmp n)) es ≡ Some live → All (IsApart all) es → number_of live.label all ≡ Some n
number-here n live all [] here apart = absurd cc
number-here n live all (x ∷ xs) here apart = first (is_at (nat_cmp n) x.0) refl here (λ h. number-here n live all xs h (All-tail (IsApart all) x xs apart))
  where
    first : (b : Bool) → is_at (nat_cmp n) x.0 ≡ b → cond b (Some x.1) (lookup (is_at (nat_cmp n)) xs) ≡ Some live → (lookup (is_at (nat_cmp n)) xs ≡ Some live → number_of live.label all ≡ Some n) → number_of live.label all ≡ Some n
    first true at here go =
        let is : x.1 ≡ live = cc in
        let equal : n ≡ x.0 = eqb-true n x.0 (is-at-own (nat_lt n x.0) (n == x.0) at) in
        ap (λ (l : Live). number_of l.label all) (sym is) ∙ (All-head (IsApart all) x xs apart ∙ ap (λ k. Some k) (sym equal))
    first false at here go = go here

pub filed-remove : (lives next : LiveTransforms) (n : ℕ) (live : Live) → AreFiled lives → get nat_cmp lives.transforms n ≡ Some live → IsStrictlySortedBy nat_cmp (keys_of next.transforms.entries)
    → next.transforms.entries ≡ remove_entry (is_at (nat_cmp n)) lives.transforms.entries → ((label : List ℕ) → led_to next label ≡ cond (bytes_eq live.label label) None (led_to lives label)) → next.next ≡ lives.next → AreFiled next
filed-remove lives next n live filed here ascend gone led count =
    let es = lives.transforms.entries in
    let own = number-here n live es es here filed.apart in
    record {
      ascend = ascend;
      led = λ label.
          led label
          ∙ (ap (cond (bytes_eq live.label label) None) (filed.led label) ∙ (sym (number-removed es n live own label es filed.ascend here filed.apart) ∙ ap (number_of label) (sym gone)));
      apart = subst (λ xs. All (IsApart xs) xs) (sym gone) (apart-left n live es filed.ascend here filed.apart own);
      below = subst (λ m. All (λ k. k < m) (keys_of next.transforms.entries)) (sym count)
          (subst (λ xs. All (λ k. k < lives.next) (keys_of xs)) (sym gone) (All-map-remove_entry (is_at (nat_cmp n)) (λ e. e.0) (λ k. k < lives.next) es filed.below));
    }

-- none are filed
pub filed-none : (lives : LiveTransforms) → IsStrictlySortedBy nat_cmp (keys_of lives.transforms.entries) → lives.labels.entries ≡ [] → lives.transforms.entries ≡ [] → AreFiled lives
filed-none lives ascend labels none =
    record {
      ascend = ascend;
      led = λ label. ap (λ es. lookup (is_at (λ key. slice_cmp nat_cmp label key.items)) es) labels ∙ sym (ap (number_of label) none);
      apart = subst (λ es. All (IsApart es) es) (sym none) (All-nil (IsApart []));
      below = subst (λ es. All (λ k. k < lives.next) (keys_of es)) (sym none) (All-nil (λ k. k < lives.next));
    }

-- the same entries are filed alike
pub filed-same : (lives next : LiveTransforms) → AreFiled lives → next.labels.entries ≡ lives.labels.entries → next.transforms.entries ≡ lives.transforms.entries → next.next ≡ lives.next → AreFiled next
filed-same lives next filed labels same count =
    record {
      ascend = subst (λ es. IsStrictlySortedBy nat_cmp (keys_of es)) (sym same) filed.ascend;
      led = λ label. ap (λ es. lookup (is_at (λ key. slice_cmp nat_cmp label key.items)) es) labels ∙ (filed.led label ∙ sym (ap (number_of label) same));
      apart = subst (λ es. All (IsApart es) es) (sym same) filed.apart;
      below = subst (λ m. All (λ k. k < m) (keys_of next.transforms.entries)) (sym count) (subst (λ es. All (λ k. k < lives.next) (keys_of es)) (sym same) filed.below);
    }

-- where nothing can be taken, nothing is
pub nothing-left : (es : Entries) → (0 < length es → false ≡ true) → es ≡ []
nothing-left [] none = refl
nothing-left (x ∷ xs) none = (let both : false ≡ true = none (omega arith) in absurd cc)
