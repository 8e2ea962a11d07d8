-- `of` keeps the pointer alone, and the handle owns what the loose box owned.
use Rattle.std.proofs.Common.{◌≡◌, List, [], ◌∷◌, ◌++◌, refl, sym, subst}
use Rattle.std.specs.Prelude.{Some}
use mir.Raw.{raw as bare}
use mir.Val.{Val, vptr, vstruct, vcons, vnil, of_list}
use base.Logic.{SProp, ent, never, fst∗, id⊢}
use prog.Wp.{WpFn}
use contract.Running.{tables}
use types.Logic.{sem}
use types.Kit.{‵, raw, ◌⊛◌, ◌$◌, ◌∵◌, !, qed, done, move, keep, drop, split, join, fsplit, fjoin, fpick, fpack, feq_i, feq_l, suffices}
use types.Part.{agg, sub, whole}
use types.Run.{stop, fld, of_opd, no_more, and_then, returns, enter}
use types.ByLocal.{alloc_all, pass_all, free_all, look_at, get, get_in, sets}
use denote.RattleType.{RattleType, Valss, owns}
use denote.Exit.{yes}
use denote.Laws.{Is, shows}
use denote.Memory.{lone}
use denote.RawPtr.{Ptr, RawPtr, block_ptr, null_ptr, ptr_val, in_a_block}
use denote.Signature.{plain, types_at}
use denote.Steps.{nothing, peeks}
use denote.Triple.Entry.{alive}
use denote.Triple.Walked.{Stays, stay_dropped, walk_of, says, ends_at}
use denote.Struct.Struct.{within}
use denote.Struct.Owning.{shape}
use Rattle.core.proofs.alloc.Calls.{Goes-blank}
use Rattle.std_alloc.specs.Box.Ownership.{box_owns}
use Rattle.std_heap.specs.contracts.Global as global
use Rattle.std_heap.specs.contracts.GlobalAllocator.TheImpl.{ghosts}
use Rattle.std_heap.proofs.Global.TheLaws as heap
use Rattle.std.proofs.raw_atomic.Walks.{proved_at}
use Rattle.perdoaze_calls.specs.Slots.{freed_by}
use Rattle.perdoaze_pipes.specs.contracts.pipe.Pipe as tfm
use Rattle.perdoaze_calls.specs.contracts.loose.Loose as loose
use Rattle.perdoaze_pipes.specs.contracts.pipe_handle.PipeHandle.{the_type}
use Rattle.perdoaze_pipes.specs.contracts.pipe_handle.PipeHandle.of as f
use Rattle.perdoaze_pipes.proofs.pipe_handle.PipeHandle.of.Statement.{statement}
use Rattle.perdoaze_pipes.proofs.pipe_handle.PipeHandle.of.Code as code

abbrev L : RattleType
L = loose.the_row tfm.the_row global.the_row ghosts

abbrev stayed : Stays f.ended.signature.params f.ended.kept
stayed = (stay_dropped _ yes, tt)

pub of_spec : {M : Type 1} → statement M
of_spec 𝓤 𝓛 𝓜 𝓡 wired =
    let c = f.clauses 𝓛 𝓜.mem 𝓡.returns in let W = walk_of 𝓛 f.ended stayed c in let 𝓣 = tables 𝓤 𝓛.H 𝓜 𝓡 𝓡.env in
    proved_at 𝓛 f.ended stayed c 𝓜 𝓡 (Goes-blank 𝓛 0 (plain (λ _. L)) yes (λ κs x w. tt), tt)
    f.Key.name code.function (code.unfolded 𝓤 𝓛.H 𝓜 𝓡 wired) (λ z are.
    let v = z.0.3.0 in let Post = W.post z in
    qed 𝓛 ((raw (alive 𝓛 f.signature z.0.0 z.0.1) ⊛ ‵ (owns (types_at f.signature.params z.0.0) z.0.3 z.0.4)) ∷ raw ((c z.0.0 z.0.3).requires z.1) ∷ []) ∵
    split ! $ move ! (1 ∷ []) $ fsplit ! $ fsplit ! $ fpick ! (λ vss. fsplit ! $ feq_l ! (λ ev. fsplit ! $ feq_l ! (λ ep. fsplit ! $
    peeks ! global.the_row (Is global.the_row) (shows 𝓛 global.the_row) v.alloc vss.1.0 (λ is. drop ! $ drop ! $
    in_a_block ! v.ptr (λ p. box_owns freed_by tfm.the_row p v.value) (fst∗ 𝓤 (never 𝓤) (sem 𝓛 (freed_by (bare (lone tfm.the_row.mir)) null_ptr))) (λ b o e.
    let gv = heap.lowers.lowered v.alloc in let w : Val = vstruct (vcons (vptr b o) (vcons gv vnil)) in let out : Val = vstruct (vcons (vptr b o) vnil) in
    let eh : vss.1.0 ≡ gv ∷ [] = heap.lowers.val_is v.alloc vss.1.0 is in
    let ws : z.0.4.0 ≡ w ∷ [] = subst (λ (p : Ptr). z.0.4.0 ≡ vstruct (of_list (ptr_val p ∷ gv ∷ [])) ∷ []) e
    (subst (λ (us : List Val). z.0.4.0 ≡ vstruct (of_list (ptr_val v.ptr ∷ (us ++ []))) ∷ []) eh (subst (λ (ps : List Val). z.0.4.0 ≡ vstruct (of_list (ps ++ (vss.1.0 ++ []))) ∷ []) ep ev)) in
    let Run : List Val → SProp 𝓤 = λ us. WpFn 𝓤 𝓛.H 𝓣.C 𝓣.Λ code.function us Post in
    suffices ! (Run (w ∷ [])) (subst (λ (us : List Val). ent 𝓤 (Run (w ∷ [])) (Run us)) (sym (λ i. ws i ++ [])) (id⊢ 𝓤 (Run (w ∷ [])))) $
    enter ! 𝓣.C 𝓣.Λ code.function (w ∷ []) Post $ alloc_all ! (λ l. pass_all ! refl ((tt, (tt, (((tt, tt), tt), tt))), tt) $
    sets ! (of_opd ! (get_in ! (fld ! refl (stop !)) (sub ! 0 refl (whole !)))) refl (tt, tt) $
    sets ! (of_opd ! (get ! refl)) refl (tt, tt) $
    sets ! (agg ! (and_then ! (get ! refl) (no_more !))) refl (tt, (tt, tt)) $
    returns ! (look_at ! 0 refl) $ free_all ! refl $ keep ! (0 ∷ 2 ∷ []) $
    suffices ! _ (ends_at 𝓛 f.ended stayed c z out (record { at = block_ptr b o; value = Some v.value }) (tt, tt) (tt, tt)) $ says ! refl $
    nothing ! $ feq_i ! (List Val) (vptr b o ∷ []) (vptr b o ∷ []) refl $ fjoin ! $ feq_i ! (List Val) (out ∷ []) (out ∷ []) refl $ fjoin ! $
    fpack ! (Valss (RawPtr ∷ [])) (within (shape the_type) (block_ptr b o, tt) (out ∷ [])) (vptr b o ∷ [], tt) $ fjoin ! $
    nothing ! $ nothing ! $ join ! $ move ! (2 ∷ 0 ∷ 1 ∷ []) $ done !)))))))
