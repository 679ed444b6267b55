-- The machine values of a `Handle`, and of what it is made from. Assumes `Logic`.
use Rattle.std.proofs.Common.{◌≡◌, List, [], ◌∷◌, ◌++◌, refl, subst}
use seplogic.Ra.Ura.{Ura}
use mir.Val.{Val, vstruct, vcons, vnil, of_list}
use types.Logic.{Logic}
use types.Kit.{Item, Goal, Seq, Step, step, ‵, ◌$◌, drop, fsplit, fjoin, fpick, fpack, feq_i, feq_l}
use denote.RattleType.{RattleType, Valss}
use denote.Builtin.{RawPtr}
use denote.Param.Laws.{Laws}
use denote.RawPtr.{ptr_val}
use denote.Steps.{nothing}
use denote.Struct.Struct.{within}
use denote.Struct.Owning.{shape}
use Rattle.core.specs.declared.alloc.Allocator.{Ghosts}
use Rattle.std.specs.contracts.alloc.Global as global
use Rattle.std.proofs.alloc.Global.TheLaws as global_laws
use Rattle.std.specs.contracts.impls.GlobalAllocator.TheImpl.{ghosts}
use Rattle.std.specs.declared.alloc.Global.{Global}
use Rattle.geo_exports.specs.declared.held.Held.{Held}
use Rattle.geo_tags.specs.contracts.tagged.TaggedSession as session
use Rattle.geo_exports.specs.contracts.held.Held as held

abbrev pub R : RattleType
R = session.the_row

abbrev pub Z : RattleType
Z = global.the_row

abbrev pub LZ : Laws Z
LZ = global_laws.the_row_laws

abbrev pub g : Ghosts Global
g = ghosts

abbrev pub word : Val → Val
word p = vstruct (vcons p vnil)

module _ {M : Type 1} {𝓤 : Ura M} {𝓛 : Logic 𝓤} {K : Type 0} {Γ : List (Item 𝓤)} {G : Goal 𝓤 𝓛.H} where
  -- made: whatever the heap is, what it owns beside the pointer is at the head
  pub held_in : K → (d : Held)
      → Step K 𝓛 (‵ (held.the_row.own_val d (word (ptr_val d.at) ∷ [])) ∷ Γ) G (‵ (held.the_heap d) ∷ Γ) G
  held_in t d = step (λ s. let v : Val = word (ptr_val d.at) in
      nothing t $ feq_i t (List Val) (ptr_val d.at ∷ []) (ptr_val d.at ∷ []) refl $ fjoin t $
      feq_i t (List Val) (v ∷ []) (v ∷ []) refl $ fjoin t $
      fpack t (Valss (RawPtr ∷ [])) (within (shape held.the_type) (d.at, tt) (v ∷ [])) (ptr_val d.at ∷ [], tt) $
      fjoin t $ s)

  -- taken apart
  pub held_out : K → (d : Held) (vs : List Val) → (vs ≡ word (ptr_val d.at) ∷ []
      → Seq K 𝓛 (‵ (held.the_heap d) ∷ Γ) G) → Seq K 𝓛 (‵ (held.the_row.own_val d vs) ∷ Γ) G
  held_out t d vs k =
      fsplit t $ fpick t (λ vss. fsplit t $ feq_l t (λ ev. fsplit t $ feq_l t (λ ep. drop t $
      k (subst (λ (ps : List Val). vs ≡ vstruct (of_list (ps ++ [])) ∷ []) ep ev))))
