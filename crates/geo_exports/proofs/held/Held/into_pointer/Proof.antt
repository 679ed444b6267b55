-- `into_pointer` gives the box's pointer back.
use Rattle.std.proofs.Common.{◌≡◌, List, [], ◌∷◌, ◌++◌, refl, sym, ap, subst}
use mir.Syntax.{Fn}
use mir.Val.{Val, vptr}
use base.Logic.{SProp, ent, emp, id⊢}
use prog.Wp.{WpFn}
use types.Logic.{sem}
use types.Kit.{‵, raw, ◌⊛◌, ◌$◌, ◌∵◌, !, qed, by, move, keep, drop, split, fsplit, fjoin, suffices, use0, rewrite}
use types.Run.{stop, fld, of_opd, no_more, and_then, returns, enter}
use types.ByLocal.{alloc_all, pass_all, free_all, look_at, get, get_in, sets}
use types.Part.{agg, sub, whole}
use contract.Monad.{fact, fact_i}
use contract.Running.{tables}
use denote.RattleType.{owns}
use denote.Signature.{types_at, plain}
use denote.RawPtr.{Ptr, block_ptr, null_ptr}
use denote.Steps.{nothing, heard}
use denote.Triple.Entry.{alive}
use denote.Triple.Walked.{Stays, stay_dropped, walk_of}
use Rattle.core.proofs.alloc.Calls.{Goes-blank}
use Rattle.std.proofs.raw_atomic.Walks.{proved_at, leaves}
use Rattle.geo_box_pointer.proofs.Values.{both, pointer_good, pointer_in}
use Rattle.geo_exports.proofs.Values.{R, Z, LZ, g, word, held_out}
use Rattle.geo_exports.specs.contracts.held.Held.into_pointer.{ended, clauses}
use Rattle.geo_exports.specs.contracts.held.Held.into_pointer.Key.{name as #self}
use Rattle.geo_exports.proofs.held.Held.into_pointer.Statement.{statement}
use Rattle.geo_exports.proofs.held.Held.into_pointer.Code as code
use Rattle.std.specs.Prelude.{Some, None, IsSome}
use Rattle.std.proofs.Common.{◌∙◌}
use mir.Raw.{raw as bare}
use mir.Syntax.{impl, tnil, dnil}
use base.Logic.{never, fst∗}
use denote.Memory.{lone}
use denote.RawPtr.{ptr_val, in_a_block}
use denote.Triple.Walked.{Goes-dropped}
use Rattle.core.proofs.alloc.Calls.{Al, handle_tells}
use Rattle.std_alloc.specs.Box.Ownership.{box_owns}
use Rattle.std.specs.Prelude.{Option}
use Rattle.geo_exports.specs.Owns.{token, where_some}
use Rattle.geo_exports.specs.contracts.held.Held as held

some_of : {X : Type 0} (o : Option X) → IsSome o → (x : X) × (o ≡ Some x)
some_of (Some x) is = (x, refl)
some_of None is = absurd (let no : ⊥ = cc in no)

abbrev al : Al
al = record { row = Z; laws = LZ; g = g; d = impl [] tnil dnil; drops = impl [] tnil dnil }

pub into_pointer_spec : {M : Type 1} → statement M
into_pointer_spec 𝓤 𝓛 𝓜 𝓡 wired =
    let H = 𝓛.H in let 𝓣 = tables 𝓤 H 𝓜 𝓡 𝓡.env in let c = clauses 𝓛 𝓜.mem 𝓡.returns in let fn : Fn = code.function in
    let slot = plain (λ _. held.the_row) in let other = plain (λ _. Z) in
    let hs : Stays ended.signature.params ended.kept = (
      stay_dropped slot ended.kept.0,
      (stay_dropped other ended.kept.1.0, tt),
    ) in
    proved_at 𝓛 ended hs c 𝓜 𝓡 (
      Goes-blank 𝓛 0 slot ended.kept.0 (λ κs x f. tt),
      (Goes-dropped 𝓛 0 other ended.kept.1.0 (λ κs x f. refl), tt),
    ) #self fn (code.unfolded 𝓤 H 𝓜 𝓡 wired) (λ z are.
    let v = z.0.3.0 in let a = z.0.3.1.0 in let Post : Val → SProp 𝓤 = (walk_of 𝓛 ended hs c).post z in
    let Run : List Val → SProp 𝓤 = λ ws. WpFn 𝓤 H 𝓣.C 𝓣.Λ fn ws Post in
    qed 𝓛 ((raw (alive 𝓛 ended.signature z.0.0 z.0.1) ⊛ ‵ (owns (types_at ended.signature.params z.0.0)
    z.0.3 z.0.4)) ∷ raw (fact 𝓤 (IsSome v.value)) ∷ []) ∵
    move ! (1 ∷ []) $ heard ! (IsSome v.value) (λ some. let got = some_of v.value some in let x = got.0 in split ! $
    move ! (1 ∷ []) $ fsplit ! $ held_out ! v z.0.4.0 (λ e0.
    rewrite ! 0 (λ (opt : Option R.Denot). ‵ (where_some opt (λ y. box_owns token R v.at y)))
    got.1 refl $
    in_a_block ! v.at (λ p. box_owns token R p x) (fst∗ 𝓤 (never 𝓤) (sem 𝓛 (token (bare
    (lone R.mir)) null_ptr))) (λ b o e.
    move ! (1 ∷ []) $ fsplit ! $ handle_tells al ! a z.0.4.1.0 (λ h ea fits. move ! (1 ∷ []) $ drop ! $
    move ! (1 ∷ []) $
    let ws : z.0.4.0 ≡ word (vptr b o) ∷ [] = e0 ∙ ap (λ (p : Ptr). word (ptr_val p) ∷ []) e in
    suffices ! (Run (word (vptr b o) ∷ h ∷ [])) (subst (λ (us : List Val × List Val). ent 𝓤 (Run (word (vptr b o)
    ∷ h ∷ [])) (Run (us.0 ++ (us.1 ++ [])))) (λ j. (sym ws j, sym ea j)) (id⊢ 𝓤 (Run (word (vptr b o) ∷ h ∷ [])))) $
    enter ! 𝓣.C 𝓣.Λ fn (word (vptr b o) ∷ h ∷ []) Post $
    alloc_all ! (λ l. pass_all ! refl ((tt, (tt, tt)), (fits, tt)) $
    sets ! (of_opd ! (get_in ! (fld ! refl (stop !)) (sub ! 0 refl (whole !)))) refl (tt, tt) $
    sets ! (of_opd ! (get ! refl)) refl (tt, tt) $
    sets ! (agg ! (and_then ! (get ! refl) (and_then ! (get ! refl) (no_more !)))) refl
    (pointer_good R Z LZ g b o h fits) $
    pointer_in R Z LZ g ! b o h a x $
    use0 𝓛 (raw (fact 𝓤 (v.value ≡ Some x))) (fact_i 𝓤 (v.value ≡ Some x) (emp 𝓤) got.1) $
    nothing ! $ nothing ! $ fjoin ! $ nothing ! $ fjoin ! $
    returns ! (look_at ! 0 refl) $ free_all ! refl $ keep ! (3 ∷ 0 ∷ 2 ∷ 1 ∷ []) $
    by ! (leaves 𝓛 ended hs c z (both (vptr b o) h) (record { at = block_ptr b o; alloc = a; value = x })
    (tt, (tt, tt)) (tt, (tt, tt)))))))))
