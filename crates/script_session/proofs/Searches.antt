-- Looks for several names, and the calls that they are.
use Rattle.std.proofs.Common.{◌≡◌, ℕ, suc, ◌+◌, ◌≤◌, Bool, true, false, ◌&&◌, List, [], ◌∷◌, ◌++◌, length, Option, Some, None, Result, Ok, Err, refl, sym, ap, subst, ◌∙◌, arith, append_assoc, append-nil}
use Rattle.std.specs.Prelude.{◌==◌, if◌then◌else◌}
use Rattle.std.specs.List.{list_all, flat_map}
use Rattle.std.proofs.lemmas.Bool.{and_parts}
use Rattle.kc_base.specs.declared.error_numbers.Errno.{Errno}
use Rattle.alg_registry.specs.declared.entry.RegEntry.{RegEntry}
use Rattle.alg_registry.specs.declared.entry.RegEntry.TheVariants as entry
use Rattle.alg_registry.specs.Rows.{caller_of}
use Rattle.reply_text.specs.declared.answers.Answer.{Answer}
use Rattle.shared_registry.specs.Builds.{is_building}
use Rattle.templates.specs.LookResults.{Found, Fault, found_in}
use Rattle.turn_lock.specs.Turns.{of}
use Rattle.dialogues.specs.Dialogues.{Dialogue, Asks}
use Rattle.dialogues.specs.First.{AreFirstCalls, BeginsBy}
use Rattle.dialogues.specs.InTurn.{is_look}
use Rattle.dialogues.specs.Names.{name_read}
use Rattle.dialogues.specs.Probe.{found_said, looks_up, looks_all}
use Rattle.dialogues.specs.Questions.{Look}
use Rattle.dialogues.proofs.First.{begins-none, begins-asks}
use Rattle.dialogues.specs.References.{got, given}
use Rattle.dialogues.specs.RegistryCalls.{RegCall, Looks, reg_call_of, reg_calls_from, prepend, AllSettled}
use Rattle.recorded_calls.specs.Looks.{Sought}
use Rattle.recorded_calls.proofs.Asking.{own}
use Rattle.script_session.specs.Probe.{Searched, IsRead, AreRead, entry_of, look_entries, comes_to, AreSaid}

-- ---- the calls that searches are

-- the call of a look, if one was made, with what it has come to
abbrev pub call_of : List RegEntry → List ℕ → Result Sought Errno → List RegCall
call_of h text (Ok look) = Looks text (found_in h look.looked) ∷ []
call_of h text (Err errno) = []

abbrev pub calls_of : List RegEntry → List Searched → List RegCall
calls_of h searches = flat_map (λ (search : Searched). call_of h search.text search.look) searches

looks-and : (h : List RegEntry) (text : List ℕ) (look : Result Sought Errno) (calls : List RegCall) → list_all is_look calls ≡ true → list_all is_look (call_of h text look ++ calls) ≡ true
looks-and h text (Ok look) calls all = all
looks-and h text (Err errno) calls all = all

pub all-looks : (h : List RegEntry) (searches : List Searched) → list_all is_look (calls_of h searches) ≡ true
all-looks h [] = refl
all-looks h (search ∷ searches) = looks-and h search.text search.look (calls_of h searches) (all-looks h searches)

one-at-most : (h : List RegEntry) (text : List ℕ) (look : Result Sought Errno) (calls : List RegCall) (n : ℕ) → length calls ≤ n → length (call_of h text look ++ calls) ≤ suc n
one-at-most h text (Ok look) calls n le = omega (arith, le)
one-at-most h text (Err errno) calls n le = omega (arith, le)

-- there are no more than there are texts
pub no-more-calls : (h : List RegEntry) (texts : List (List ℕ)) (searches : List Searched) → AreRead texts searches → length (calls_of h searches) ≤ length texts
no-more-calls h [] [] read = omega arith
no-more-calls h (text ∷ texts) (search ∷ searches) read = one-at-most h search.text search.look (calls_of h searches) (length texts) (no-more-calls h texts searches read.2)
no-more-calls h [] (search ∷ searches) read = absurd read
no-more-calls h (text ∷ texts) [] read = absurd read

no-reference : (id : ℕ) (h : List RegEntry) (text : List ℕ) (look : Result Sought Errno) (calls : List RegCall) → got id calls ≡ given id calls → got id (call_of h text look ++ calls) ≡ given id (call_of h text look ++ calls)
no-reference id h text (Ok look) calls same = ap (λ n. 0 + n) same
no-reference id h text (Err errno) calls same = same

-- they take no reference and give none back
pub no-references : (id : ℕ) (h : List RegEntry) (searches : List Searched) → got id (calls_of h searches) ≡ given id (calls_of h searches)
no-references id h [] = refl
no-references id h (search ∷ searches) = no-reference id h search.text search.look (calls_of h searches) (no-references id h searches)

settled-one : (h : List RegEntry) (text : List ℕ) (look : Result Sought Errno) (found : Found) (calls : List RegCall) → comes_to h look ≡ Some found → AllSettled calls → AllSettled (call_of h text look ++ calls)
settled-one h text (Ok look) found calls is all = subst (λ o. AllSettled (Looks text o ∷ calls)) (sym is) (refl, all)
settled-one h text (Err errno) found calls is all = all

-- where something is said of each, each has come to something
pub all-settled : (h : List RegEntry) (n : ℕ) (searches : List Searched) (answers : List Answer) → AreSaid h n searches answers → AllSettled (calls_of h searches)
all-settled h n [] [] said = tt
all-settled h n (search ∷ searches) (answer ∷ answers) said =
    settled-one h search.text search.look said.0.0 (calls_of h searches) said.0.1 (all-settled h n searches answers said.1)
all-settled h n [] (answer ∷ answers) said = absurd said
all-settled h n (search ∷ searches) [] said = absurd said

-- ---- the calls in a history

-- a look, or work
abbrev pub is_search : RegEntry → Bool
is_search (entry.Look by text plain answer) = true
is_search (entry.Claim by larval) = true
is_search (entry.End by larval answer) = true
is_search (entry.Waited by larval) = true
is_search _ = false

-- what such an entry is as a call doesn't depend on what stands before it
same-call : (h : List RegEntry) (n : ℕ) (before : List RegEntry) (e : RegEntry) → is_search e ≡ true → reg_call_of h n before e ≡ reg_call_of h n [] e
same-call h n before (entry.Look by text plain answer) is = refl
same-call h n before (entry.Claim by larval) is = refl
same-call h n before (entry.End by larval answer) is = refl
same-call h n before (entry.Waited by larval) is = refl
same-call h n before (entry.Enlist by spec answer) is = absurd cc
same-call h n before (entry.Unlist by driver answer) is = absurd cc
same-call h n before (entry.Get by id ok) is = absurd cc
same-call h n before (entry.Put by id) is = absurd cc
same-call h n before (entry.Refs by driver) is = absurd cc
same-call h n before (entry.List by) is = absurd cc

if-not : (own : Bool) (call : RegCall) → own ≡ false → (if own then Some call else None) ≡ None
if-not true call e = absurd cc
if-not false call e = refl

-- an entry of another is no call
foreign : (h : List RegEntry) (n : ℕ) (before : List RegEntry) (e : RegEntry) → (caller_of e == n) ≡ false → reg_call_of h n before e ≡ None
foreign h n before (entry.Enlist by spec answer) e = if-not _ _ e
foreign h n before (entry.Look by text true answer) e = refl
foreign h n before (entry.Look by text false answer) e = if-not _ _ e
foreign h n before (entry.Unlist by driver answer) e = if-not _ _ e
foreign h n before (entry.Get by id ok) e = if-not _ _ e
foreign h n before (entry.Put by id) e = if-not _ _ e
foreign h n before (entry.Refs by driver) e = if-not _ _ e
foreign h n before (entry.List by) e = if-not _ _ e
foreign h n before (entry.Claim by larval) e = refl
foreign h n before (entry.End by larval answer) e = refl
foreign h n before (entry.Waited by larval) e = refl

-- the calls of a caller's own looks and work
abbrev own_calls : List RegEntry → ℕ → List RegEntry → List RegCall
own_calls h n [] = []
own_calls h n (e ∷ es) = prepend (reg_call_of h n [] e) (own_calls h n es)

calls-by-own : (h : List RegEntry) (n : ℕ) (before xs : List RegEntry) → list_all is_search (of caller_of n xs) ≡ true → reg_calls_from h n before xs ≡ own_calls h n (of caller_of n xs)
calls-by-own h n before [] all = refl
calls-by-own h n before (x ∷ xs) all = by_test (caller_of x == n) refl all (calls-by-own h n (before ++ x ∷ []) xs)
  where
    by_test : (t : Bool) → (caller_of x == n) ≡ t → list_all is_search (if t then x ∷ of caller_of n xs else of caller_of n xs) ≡ true
        → (list_all is_search (of caller_of n xs) ≡ true → reg_calls_from h n (before ++ x ∷ []) xs ≡ own_calls h n (of caller_of n xs))
        → reg_calls_from h n before (x ∷ xs) ≡ own_calls h n (if t then x ∷ of caller_of n xs else of caller_of n xs)
    by_test true t all rest =
        let both = and_parts (is_search x) (list_all is_search (of caller_of n xs)) all in
        ap (λ c. prepend c (reg_calls_from h n (before ++ x ∷ []) xs)) (same-call h n before x both.0)
        ∙ ap (prepend (reg_call_of h n [] x)) (rest both.1)
    by_test false t all rest =
        ap (λ c. prepend c (reg_calls_from h n (before ++ x ∷ []) xs)) (foreign h n before x t) ∙ rest all

prepend-append : (call : Option RegCall) (a b : List RegCall) → prepend call (a ++ b) ≡ prepend call a ++ b
prepend-append None a b = refl
prepend-append (Some call) a b = refl

own_calls-append : (h : List RegEntry) (n : ℕ) (xs ys : List RegEntry) → own_calls h n (xs ++ ys) ≡ own_calls h n xs ++ own_calls h n ys
own_calls-append h n [] ys = refl
own_calls-append h n (x ∷ xs) ys = ap (prepend (reg_call_of h n [] x)) (own_calls-append h n xs ys) ∙ prepend-append (reg_call_of h n [] x) (own_calls h n xs) (own_calls h n ys)

work-no_call : (h : List RegEntry) (n : ℕ) (e : RegEntry) → is_building e ≡ true → (reg_call_of h n [] e ≡ None) × (is_search e ≡ true)
work-no_call h n (entry.Look by text true answer) is = (refl, refl)
work-no_call h n (entry.Look by text false answer) is = absurd cc
work-no_call h n (entry.Claim by larval) is = (refl, refl)
work-no_call h n (entry.End by larval answer) is = (refl, refl)
work-no_call h n (entry.Waited by larval) is = (refl, refl)
work-no_call h n (entry.Enlist by spec answer) is = absurd cc
work-no_call h n (entry.Unlist by driver answer) is = absurd cc
work-no_call h n (entry.Get by id ok) is = absurd cc
work-no_call h n (entry.Put by id) is = absurd cc
work-no_call h n (entry.Refs by driver) is = absurd cc
work-no_call h n (entry.List by) is = absurd cc

work-no_calls : (h : List RegEntry) (n : ℕ) (work : List RegEntry) → list_all is_building work ≡ true → (own_calls h n work ≡ []) × (list_all is_search work ≡ true)
work-no_calls h n [] all = (refl, refl)
work-no_calls h n (e ∷ work) all =
    let both = and_parts (is_building e) (list_all is_building work) all in
    let one = work-no_call h n e both.0 in
    let rest = work-no_calls h n work both.1 in
    (ap (λ c. prepend c (own_calls h n work)) one.0 ∙ rest.0, ap (λ b. b && list_all is_search work) one.1 ∙ rest.1)

look-call : (h : List RegEntry) (n : ℕ) (text : List ℕ) (look : Result Sought Errno) (rest : List RegEntry) → IsRead text look → own_calls h n (entry_of n look ++ rest) ≡ call_of h text look ++ own_calls h n rest
look-call h n text (Ok look) rest read =
    ap (λ c. prepend c (own_calls h n rest)) (own n (Looks look.text (found_in h look.looked)) ∙ ap (λ t. Some (Looks t (found_in h look.looked))) read.2)
look-call h n text (Err errno) rest read = refl

look-calls : (h : List RegEntry) (n : ℕ) (texts : List (List ℕ)) (searches : List Searched) → AreRead texts searches → own_calls h n (look_entries n searches) ≡ calls_of h searches
look-calls h n [] [] read = refl
look-calls h n (text ∷ texts) (search ∷ searches) read =
    look-call h n search.text search.look (look_entries n searches) read.1 ∙ ap (λ cs. call_of h search.text search.look ++ cs) (look-calls h n texts searches read.2)
look-calls h n [] (search ∷ searches) read = absurd read
look-calls h n (text ∷ texts) [] read = absurd read

look-searches : (n : ℕ) (look : Result Sought Errno) (rest : List RegEntry) → list_all is_search rest ≡ true → list_all is_search (entry_of n look ++ rest) ≡ true
look-searches n (Ok look) rest all = all
look-searches n (Err errno) rest all = all

all-search : (n : ℕ) (searches : List Searched) (rest : List RegEntry) → list_all is_search rest ≡ true → list_all is_search (look_entries n searches ++ rest) ≡ true
all-search n [] rest all = all
all-search n (search ∷ searches) rest all =
    subst (λ es. list_all is_search es ≡ true) (sym (append_assoc (entry_of n search.look) (look_entries n searches) rest)) (look-searches n search.look (look_entries n searches ++ rest) (all-search n searches rest all))

-- where the caller's own entries are these looks and then work, the looks are its calls
pub calls-are-looks : (h : List RegEntry) (n : ℕ) (before xs work : List RegEntry) (texts : List (List ℕ)) (searches : List Searched) → AreRead texts searches
    → of caller_of n xs ≡ look_entries n searches ++ work → list_all is_building work ≡ true → reg_calls_from h n before xs ≡ calls_of h searches
calls-are-looks h n before xs work texts searches read mine all_work =
    let none = work-no_calls h n work all_work in
    calls-by-own h n before xs (ap (list_all is_search) mine ∙ all-search n searches work none.1)
    ∙ (ap (own_calls h n) mine
    ∙ (own_calls-append h n (look_entries n searches) work
    ∙ ((λ i. look-calls h n texts searches read i ++ none.0 i)
    ∙ append-nil (calls_of h searches))))

-- ---- looks of the first of several names are the first calls of looking them all up

begins-looked : (text : List ℕ) (o : Option Found) (next : Found → Dialogue) (r : List RegCall) → ((found : Found) → BeginsBy (next found) r []) → BeginsBy (Asks (Look text) next) (Looks text o ∷ r) []
begins-looked text (Some found) next r all calls may = begins-asks (Look text) found next r [] (all found) calls may
begins-looked text None next r all [] may = absurd may
begins-looked text None next r all (call ∷ calls) may =
    let found = may.0.0 in
    subst (λ x. AreFirstCalls (Asks (Look text) next) (x ∷ calls) []) (sym may.0.1) (begins-asks (Look text) found next r [] (all found) (Looks text (Some found) ∷ calls) (refl, may.1))

begins-up : (h : List RegEntry) (text : List ℕ) (look : Result Sought Errno) (next : Found → Dialogue) (r : List RegCall) → IsRead text look → ((found : Found) → BeginsBy (next found) r [])
    → BeginsBy (looks_up text (name_read text) next) (call_of h text look ++ r) []
begins-up h text (Ok look) next r read all =
    subst (λ reading. BeginsBy (looks_up text reading next) (Looks text (found_in h look.looked) ∷ r) []) (sym read.1) (begins-looked text (found_in h look.looked) next r all)
begins-up h text (Err errno) next r read all = subst (λ reading. BeginsBy (looks_up text reading next) r []) (sym read) (all (Fault errno))

pub begins-looks : (n : ℕ) (front more : List (List ℕ)) (rest : List Answer → Dialogue) (h : List RegEntry) (searches : List Searched) → AreRead front searches → BeginsBy (looks_all n (front ++ more) rest) (calls_of h searches) []
begins-looks n [] more rest h [] read = begins-none (looks_all n more rest)
begins-looks n (text ∷ front) more rest h (search ∷ searches) read =
    let next : Found → Dialogue = λ found. looks_all n (front ++ more) (λ answers. rest (found_said n search.text found ∷ answers)) in
    subst (λ t. BeginsBy (looks_all n (t ∷ (front ++ more)) rest) (calls_of h (search ∷ searches)) []) read.0
    (begins-up h search.text search.look next (calls_of h searches) read.1 (λ found. begins-looks n front more (λ answers. rest (found_said n search.text found ∷ answers)) h searches read.2))
begins-looks n [] more rest h (search ∷ searches) read = absurd read
begins-looks n (text ∷ front) more rest h [] read = absurd read
