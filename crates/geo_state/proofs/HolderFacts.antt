-- What a sound world says of the consumer of a handle.
use Rattle.std.specs.Prelude.{◌≡◌, ℕ, ◌==◌, Bool, true, false, ◌&&◌, List, [], ◌∷◌, filter, find, count_by, Option, Some, None, IsSomeAnd, MatchOption, Contains, if◌then◌else◌}
use Rattle.std.specs.List.{AllByRecursion}
use Rattle.std.proofs.Common.{refl, sym, ◌∙◌, ap, subst, arith, rules}
use Rattle.std.proofs.lemmas.Bool.{eqb-true}
use Rattle.std.proofs.lemmas.List.Elements.{recursion_from_All}
use Rattle.geo_base.specs.declared.kind.Kind.{Kind}
use Rattle.geo_base.specs.declared.kind.Kind.TheVariants as kinds
use Rattle.geo_base.proofs.FindLists.{found_in, found_passes}
use Rattle.geo_model.specs.declared.command.LineCommand.{LineCommand}
use Rattle.geo_model.specs.declared.step.Entry.{Entry}
use Rattle.geo_model.specs.Demand.{no_counts, one_read}
use Rattle.geo_model.specs.Words.{is_kind, is_granted_kind, names_number}
use Rattle.geo_model.specs.Topology.{Geom, Consumer, consumer_at, consumers_of}
use Rattle.geo_model.specs.World.{Config, Handle, Taste, is_read_out, taste_grant}
use Rattle.geo_model.specs.Fitting.{Firm}
use Rattle.geo_model.specs.Sound.{HasItsConsumer, IsHandleConsumer, IsOfItsClass, IsTasting}
use Rattle.geo_handles.specs.Handles.{handle_at}
use Rattle.geo_laws_counts.specs.CountWords.{HoldsGrants}
use Rattle.geo_laws_counts.proofs.Members.{kept_members}
use Rattle.geo_laws_graph.proofs.Lists.{found_itself}
use Rattle.geo_laws_graph.proofs.Members.{at_contained}
use Rattle.geo_state.specs.declared.state.State.{State}
use Rattle.geo_state.specs.World.{world, StandsFirm}

-- what holds of all holds of the one that is found
pub found-fact : {X : Type 0} (P : X → Type 0) (p : X → Bool) (xs : List X) (x : X) → AllByRecursion P xs
    → find p xs ≡ Some x → P x
found-fact P p xs x all found = at_contained P xs x all (found_in p xs x found).0

-- what holds of those that are kept holds of the one that is found, where it is kept
pub kept-fact : {X : Type 0} (P : X → Type 0) (keep p : X → Bool) (xs : List X) (x : X)
    → AllByRecursion P (filter keep xs) → find p xs ≡ Some x → keep x ≡ true → P x
kept-fact P keep p [] x all never kept = absurd cc
kept-fact {X} P keep p (y ∷ ys) x all found kept =
    at (p y) refl (keep y) refl found (λ facts is. kept-fact P keep p ys x facts is kept)
  where
    at : (a : Bool) → p y ≡ a → (b : Bool) → keep y ≡ b → find p (y ∷ ys) ≡ Some x
        → (AllByRecursion P (filter keep ys) → find p ys ≡ Some x → P x) → P x
    at true e true f is rest = search rules
    at true e false f is rest = search rules
    at false e true f is rest = search rules
    at false e false f is rest = rest (rw f at all) (rw e at is)

-- geom 1 is DEV
dev-granted : (k : Kind) → is_kind k kinds.Dev ≡ true → is_granted_kind k ≡ true
dev-granted kinds.Dev e = refl
dev-granted _ e = absurd cc

-- the consumer of a handle: it stands, it is one of DEV, only this handle has it, and the taste granted it nothing
pub record IsHeld (s : State) (c : ℕ) : Type 0 where
  pub consumer : Consumer
  pub found : consumer_at s.topo.topology c ≡ Some consumer
  pub dev : consumer.geom ≡ 1
  pub once : count_by (λ (h : Handle). names_number h.consumer c) s.handles.handles ≡ 1
  pub untasted : taste_grant s.taste c ≡ no_counts
  pub holds : IsSomeAnd (consumer_at s.topo.topology c) (λ x. HoldsGrants s.topo.topology x.geom)

module _ (log : List Entry) (s : State) (actors : List (List LineCommand)) (firm : Firm (world actors log s)) where
  -- geom 1 holds what was granted to its consumers
  pub dev-holds_in : HoldsGrants s.topo.topology 1
  dev-holds_in =
      search (
        rules,
        found-fact IsOfItsClass (λ (x : Geom Config). x.number == 1) s.topo.topology.geoms,
        recursion_from_All IsOfItsClass s.topo.topology.geoms firm.graph.numbers.classes,
        dev-granted,
        found_passes (λ (x : Geom Config). x.number == 1) s.topo.topology.geoms,
      )

  -- a consumer of DEV isn't the taste's
  untasted_in : (c : ℕ) (x : Consumer) → consumer_at s.topo.topology c ≡ Some x → x.geom ≡ 1
      → taste_grant s.taste c ≡ no_counts
  untasted_in c x found dev = on s.taste refl firm.handles.taste
    where
      never : (a : Taste) → a.consumer ≡ c → IsTasting s.topo.topology a → ⊥
      never a same tasting =
          let members : AllByRecursion (λ (y : Consumer). Contains s.topo.topology.consumers y × ((y.geom == 2) ≡ true))
          (consumers_of s.topo.topology 2) = kept_members (λ (y : Consumer). y.geom == 2) s.topo.topology.consumers in
          let one : AllByRecursion (λ (y : Consumer). Contains s.topo.topology.consumers y × ((y.geom == 2) ≡ true))
          (tasting.consumer ∷ []) =
          subst (AllByRecursion (λ (y : Consumer). Contains s.topo.topology.consumers y × ((y.geom == 2) ≡ true)))
          tasting.alone members in
          let itself : consumer_at s.topo.topology tasting.consumer.number ≡ Some tasting.consumer =
          found_itself (λ (y : Consumer). y.number) s.topo.topology.next_consumer s.topo.topology.consumers
          tasting.consumer firm.graph.numbers.consumers one.0.0 in
          let it : Some x ≡ Some tasting.consumer =
          sym found ∙ ap (consumer_at s.topo.topology) (sym (tasting.number ∙ same)) ∙ itself in
          let geom : x.geom ≡ tasting.consumer.geom =
          ap (λ (y : Consumer). y.geom) (let e : x ≡ tasting.consumer = cc in e) in
          let two : tasting.consumer.geom ≡ 2 = eqb-true tasting.consumer.geom 2 one.0.1 in
          let bad : 1 ≡ 2 = sym dev ∙ geom ∙ two in
          omega (arith, bad)

      by : (a : Taste) → IsTasting s.topo.topology a → (b : Bool) → (a.consumer == c) ≡ b
          → taste_grant (Some a) c ≡ no_counts
      by a tasting true e = absurd (never a (eqb-true a.consumer c e) tasting)
      by a tasting false e = ap (λ b. if b && is_read_out a.asked then one_read else no_counts) e

      on : (o : Option Taste) → s.taste ≡ o
          → MatchOption o (consumers_of s.topo.topology 2 ≡ []) (IsTasting s.topo.topology)
          → taste_grant s.taste c ≡ no_counts
      on None e none = ap (λ o. taste_grant o c) e
      on (Some a) e tasting = ap (λ o. taste_grant o c) e ∙ by a tasting (a.consumer == c) refl

  pub held_in : (n c : ℕ) (h : Handle) → handle_at s.handles.handles n ≡ Some h → h.consumer ≡ Some c → IsHeld s c
  held_in n c h found has = on (consumer_at s.topo.topology c) refl stands
    where
      stands : IsSomeAnd (consumer_at s.topo.topology c) (λ x. x.geom ≡ 1)
      stands =
          subst (λ o. MatchOption o (h.dead ≡ true) (λ d. IsSomeAnd (consumer_at s.topo.topology d) (λ x. x.geom ≡ 1)))
          has
          (found-fact (HasItsConsumer s.topo.topology) (λ (k : Handle). k.number == n) s.handles.handles h
          (recursion_from_All (HasItsConsumer s.topo.topology) s.handles.handles firm.handles.handles) found)

      on : (o : Option Consumer) → consumer_at s.topo.topology c ≡ o → IsSomeAnd o (λ x. x.geom ≡ 1) → IsHeld s c
      on None e never = absurd never
      on (Some x) e dev =
          search (
            rules,
            eqb-true x.number c (found_passes (λ (y : Consumer). y.number == c) s.topo.topology.consumers x e),
            kept-fact (IsHandleConsumer s.handles.handles) (λ (y : Consumer). y.geom == 1) (λ y. y.number == c)
                s.topo.topology.consumers x
                (recursion_from_All (IsHandleConsumer s.handles.handles) (consumers_of s.topo.topology 1)
                firm.handles.consumers) e,
            recursion_from_All (IsHandleConsumer s.handles.handles) (consumers_of s.topo.topology 1)
                firm.handles.consumers,
            untasted_in c x e dev,
            dev-holds_in,
          )

-- where some commands are left
module _ (log : List Entry) (s : State) (firm : StandsFirm log s) where
  pub dev-holds : HoldsGrants s.topo.topology 1
  dev-holds = dev-holds_in log s firm.0 firm.1

  pub held : (n c : ℕ) (h : Handle) → handle_at s.handles.handles n ≡ Some h → h.consumer ≡ Some c → IsHeld s c
  held = held_in log s firm.0 firm.1
