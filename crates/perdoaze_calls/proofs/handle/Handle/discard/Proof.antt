-- `discard` lets a handle go that owns nothing.
use Rattle.std.proofs.Common.{◌≡◌, List, [], ◌∷◌, ◌++◌, refl, sym, subst, lit<}
use Rattle.std.specs.Prelude.{Option, None, false}
use mir.Val.{Val, vstruct, vunit, of_list}
use base.Logic.{SProp, ent, id⊢}
use prog.Wp.{WpFn}
use contract.Running.{tables}
use types.Kit.{‵, raw, ◌⊛◌, ◌$◌, ◌∵◌, !, qed, done, move, drop, split, join, fsplit, fpick, feq_i, feq_l, rewrite, suffices, group}
use types.Part.{sub, whole}
use types.Run.{stop, fld, of_opd, unit_lit, returns, enter}
use types.ByLocal.{alloc_all, pass_all, free_all, look_at, get_in, sets}
use denote.RattleType.{owns}
use denote.Exit.{yes}
use denote.Laws.{Typed}
use denote.RawPtr.{Ptr, block_ptr, null_ptr}
use denote.Signature.{plain, types_at}
use denote.Steps.{nothing, heard}
use denote.Triple.Entry.{alive}
use denote.Triple.Walked.{Stays, stay_dropped, walk_of, ends_at}
use contract.Monad.{fact}
use Rattle.core.proofs.alloc.Calls.{Goes-blank}
use Rattle.std.proofs.raw_atomic.Walks.{proved_at}
use Rattle.perdoaze_calls.specs.Slots.{held_at, is_filled}
use Rattle.perdoaze_calls.proofs.Filled.{nothing_in}
use Rattle.perdoaze_calls.proofs.Pointers.{word, pointer_fits}
use Rattle.perdoaze_calls.specs.declared.transform.Transform.{Transform}
use Rattle.perdoaze_calls.specs.contracts.handle.Handle.{the_row}
use Rattle.perdoaze_calls.specs.contracts.handle.Handle.discard as f
use Rattle.perdoaze_calls.proofs.handle.Handle.discard.Statement.{statement}
use Rattle.perdoaze_calls.proofs.handle.Handle.discard.Code as code

abbrev stayed : Stays f.ended.signature.params f.ended.kept
stayed = (stay_dropped _ yes, tt)

word_fits : (p : Ptr) → Typed the_row.mir (word p ∷ [])
word_fits (block_ptr b o) = ((tt, (tt, tt)), tt)
word_fits null_ptr = ((tt, (record { fits = lit< tt }, tt)), tt)

pub discard_spec : {M : Type 1} → statement M
discard_spec 𝓤 𝓛 𝓜 𝓡 wired =
    let c = f.clauses 𝓛 𝓜.mem 𝓡.returns in let W = walk_of 𝓛 f.ended stayed c in let 𝓣 = tables 𝓤 𝓛.H 𝓜 𝓡 𝓡.env in
    proved_at 𝓛 f.ended stayed c 𝓜 𝓡 (Goes-blank 𝓛 0 (plain (λ _. the_row)) yes (λ κs x w. tt), tt)
    f.Key.name code.function (code.unfolded 𝓤 𝓛.H 𝓜 𝓡 wired) (λ z are.
    let h = z.0.3.0 in let Post = W.post z in
    qed 𝓛 ((raw (alive 𝓛 f.signature z.0.0 z.0.1) ⊛ ‵ (owns (types_at f.signature.params z.0.0) z.0.3 z.0.4)) ∷ raw (fact 𝓤 (is_filled h.value ≡ false)) ∷ []) ∵
    move ! (1 ∷ []) $ heard ! (is_filled h.value ≡ false) (λ filled. let bare : h.value ≡ None = nothing_in h.value filled in
    split ! $ move ! (1 ∷ []) $ fsplit ! $ fsplit ! $ fpick ! (λ vss. fsplit ! $ feq_l ! (λ ev. fsplit ! $ feq_l ! (λ ep. drop ! $
    rewrite ! 0 (λ (x : Option Transform). ‵ (held_at h.at x)) bare refl $ drop ! $ drop ! $
    let w : Val = word h.at in
    let ws : z.0.4.0 ≡ w ∷ [] = subst (λ (ps : List Val). z.0.4.0 ≡ vstruct (of_list (ps ++ [])) ∷ []) ep ev in
    let Run : List Val → SProp 𝓤 = λ us. WpFn 𝓤 𝓛.H 𝓣.C 𝓣.Λ code.function us Post in
    suffices ! (Run (w ∷ [])) (subst (λ (us : List Val). ent 𝓤 (Run (w ∷ [])) (Run us)) (sym (λ i. ws i ++ [])) (id⊢ 𝓤 (Run (w ∷ [])))) $
    enter ! 𝓣.C 𝓣.Λ code.function (w ∷ []) Post $ alloc_all ! (λ l. pass_all ! refl (word_fits h.at) $
    sets ! (of_opd ! (get_in ! (fld ! refl (stop !)) (sub ! 0 refl (whole !)))) refl (pointer_fits h.at).0 $
    sets ! (of_opd ! (unit_lit !)) refl (tt, tt) $
    returns ! (look_at ! 0 refl) $ free_all ! refl $
    suffices ! _ (ends_at 𝓛 f.ended stayed c z vunit tt (tt, tt) (tt, tt)) $ feq_i ! (List Val) (vunit ∷ []) (vunit ∷ []) refl $ nothing ! $ nothing ! $ join ! $ nothing ! $ group ! 3 $ done !))))))
