-- What a step comes to where a class accepts: what is made, the mesh, the events and the taste after it.
use Rattle.std.specs.Option.{option_map_or}
use Rattle.std.proofs.Common.{◌≡◌, ◌<◌, ◌==◌, true, false, Option, Some, None, Result, Ok, Err, IsSome, IfSome, IsSomeAnd, IfOk, OnErr, is_some, option_map, sym, ◌∙◌, ap, subst, rules}
use Rattle.std.proofs.lemmas.Bool.{eqb-true}
use Rattle.geo_base.proofs.Options.{some_of}
use Rattle.geo_base.specs.declared.limits.TheConstants.{UNTASTED_RANK}
use Rattle.geo_model.specs.declared.class.Judged.{Judged}
use Rattle.geo_model.specs.declared.class.Judged.TheVariants.{Next, Made}
use Rattle.geo_model.specs.declared.class.Shape.{Shape}
use Rattle.geo_model.specs.Rank.{rank}
use Rattle.geo_model.specs.Tasting.{end_class, facts_of, is_ended}
use Rattle.geo_model.specs.Topology.{Topology, Provider, provider_at}
use Rattle.geo_model.specs.World.{Config, Taste, is_read_out}
use Rattle.geo_model.proofs.DemandLemmas.{find_passes}
use Rattle.geo_event.specs.EventQueue.{Queued}
use Rattle.geo_mesh.specs.Graph.{IsSoundGraph}
use Rattle.geo_mesh.specs.Topo.{TopoView, IsButForRoom}
use Rattle.geo_access.specs.Access.{granted_by}
use Rattle.geo_class.specs.Taste.{ended}
use Rattle.geo_taste.specs.declared.shapes.Accepted.{Accepted}
use Rattle.geo_taste.specs.declared.shapes.Accepted.TheVariants as answers
use Rattle.geo_taste.specs.Accepting.{accepted, IsAccepted}
use Rattle.geo_taste.specs.Accepts.{MayAccept, NamesAPlace}
use Rattle.geo_taste.specs.Making.{AreBoth, QueuedMesh, both, queued}
use Rattle.geo_taste.specs.Standing.{CanStandOn}
use Rattle.geo_taste.proofs.ModelLemmas.{accepted_is}
use Rattle.geo_taste.specs.declared.judge.Said.{Said}
use Rattle.geo_taste.specs.declared.judge.Said.TheVariants.{Came, Accepts}
use Rattle.geo_taste.specs.Going.{going}
use Rattle.geo_taste.specs.Judging.{IsJudged, IsKnownAfter, IsKnownWith, IsMadeOf, IsTakenAs, MayJudge, judged_of, making}
use Rattle.geo_taste.specs.Saying.{IsAccepting, IsSaid, accepting, is_plain, with_said}
use Rattle.geo_taste.specs.Taster.{IsSettled, IsTasteOf, judging}
use Rattle.geo_taste.proofs.Coming.{settled_roomed}
use Rattle.geo_taste.proofs.Asking.{no_error_there}
use Rattle.geo_taste.proofs.Adding.{HoldsTaste, accepted_held}
use Rattle.geo_taste.proofs.Saying.{back_named}

-- a mesh that is another one, is that but for room
pub but_for_room : {C : Type 0} (u w : TopoView C) → u ≡ w → IsButForRoom u w
but_for_room {C} u w e = e ∙ ap (λ r. record w { room = r }) (sym (ap (λ (v : TopoView C). v.room) e))

-- but for room a mesh is settled, and the taste's consumer is as it was
pub settled_but : {C : Type 0} (t u : TopoView C) → IsButForRoom u t → IsSettled t → IsSettled u
settled_but {C} t u same is = subst (λ (v : TopoView C). IsSettled v) (sym same) (settled_roomed t u.room is)

-- What is accepted

module _ (m : QueuedMesh) (s : Taste) (p : Provider) (shape : Shape) (t : TopoView Config) (q : Queued) where
  -- what may be made
  abbrev may : Type 0
  may = MayAccept (queued m) p shape

  -- the step, by what is made
  accepting_is : (o : Option QueuedMesh) → accepted m p shape ≡ o
      → accepting (granted_by m.mesh) (queued m) s p shape
      ≡ option_map_or (λ x. end_class (granted_by m.mesh) x s Made) (option_map queued o)
      (end_class (granted_by m.mesh) (queued m) s Next)
  accepting_is o is = search (rules, accepted_is m p shape)

  -- where something is made
  made_step : (o : Option QueuedMesh) → accepted m p shape ≡ o → IsSomeAnd o (AreBoth t q)
      → accepting (granted_by m.mesh) (queued m) s p shape ≡ judging t q.events (ended s) Made
  made_step None is never = absurd never
  made_step (Some made) is are = search (rules, accepting_is (Some made) is)

  module _ (held : HoldsTaste s m.mesh) (sound : IsSoundGraph m.mesh.topology)
      (there : IsSome (provider_at m.mesh.topology p.number)) (place : NamesAPlace shape)
      (idle : is_read_out s.asked ≡ false) where
    -- what is made holds the taste
    made_held : may → (o : Option QueuedMesh) → accepted m p shape ≡ o → IsSomeAnd o (AreBoth t q)
        → IsSettled t × IsTasteOf t (ended s)
    made_held so None is never = absurd never
    made_held so (Some made) is are =
        search (rules, accepted_held s m held sound p there shape place so, settled_but made.mesh t are.mesh)

    -- each answer
    taken_by : (a : Accepted) → IsAccepted a t q m (accepted m p shape) may
        → IsTakenAs m s p shape t q (ended s) (judged_of a)
    taken_by answers.Made is = search (rules, made_step (accepted m p shape), made_held)
    taken_by answers.Declined is = search (rules, settled_but m.mesh t is.0.mesh held.settled)

-- so of a provider that is found
pub taken_as : (m : QueuedMesh) (s : Taste) (shape : Shape) (t : TopoView Config) (q : Queued)
    → IsSettled m.mesh → IsTasteOf m.mesh s → IsSoundGraph m.mesh.topology → NamesAPlace shape
    → is_read_out s.asked ≡ false → (p : Provider) → provider_at m.mesh.topology s.provider ≡ Some p
    → (a : Accepted) → IsAccepted a t q m (accepted m p shape) (MayAccept (queued m) p shape)
    → IsTakenAs m s p shape t q (ended s) (judged_of a)
taken_as m s shape t q settled tasting sound place idle p found a is =
    search (
      rules,
      eqb-true p.number s.provider
          (find_passes (λ (y : Provider). y.number == s.provider) m.mesh.topology.providers p found),
      taken_by m s p shape t q
          (record
          { settled = settled; order = sound.orderly.order; live = sound.orderly.parts.providers; tasting = tasting })
          sound,
    )

-- The tasted provider

module _ (t : Topology Config) (s : Taste) where
  -- a taste that goes on has its provider
  pub goes_found : (p : Provider) → going t s ≡ Some p → (is_ended t s ≡ false) × (provider_at t s.provider ≡ Some p)
  goes_found p goes = search rules

  -- which carries no error
  goes_sound : (p : Provider) → going t s ≡ Some p → p.errored ≡ false
  goes_sound p goes = search (rules, no_error_there t s.provider p)

  -- so a geom can stand on it where it isn't too high
  goes_stands : (p : Provider) → going t s ≡ Some p
      → IfSome (provider_at t s.provider) (λ x. rank t x.geom < UNTASTED_RANK) → CanStandOn t s.provider
  goes_stands p goes low =
      let found = (goes_found p goes).1 in
      search (rules, goes_sound p goes)

-- A whole step

module _ (m : QueuedMesh) (s : Taste) (t : TopoView Config) (q : Queued) where
  module _ (shape : Shape) (z : Taste) (j : Judged) (is : IsAccepting m.mesh s shape)
      (taken : IsTakenAs m s is.provider shape t q z j) where
    -- what may be judged may be accepted
    may_accept : MayJudge m s → MayAccept (queued m) is.provider shape
    may_accept may = may is.provider shape is.goes is.verdict

    -- the mesh
    mesh_by : (k : Judged)
        → IsMadeOf (accepted m is.provider shape) (MayAccept (queued m) is.provider shape) m s t q k
        → IsMadeOf (making m s) (MayJudge m s) m s t q k
    mesh_by Made made = search rules
    mesh_by _ made = made

    -- one in which a class accepted
    pub taken_judged : IsJudged m s t q z j
    taken_judged = search (rules, mesh_by j taken.mesh)

    -- what is known then
    pub known_from : (fact : Type 0) → IsKnownWith j (MayAccept (queued m) is.provider shape) fact
        → IsKnownWith j (MayJudge m s) fact
    known_from fact known = by j known
      where
        by : (k : Judged) → IsKnownWith k (MayAccept (queued m) is.provider shape) fact
            → IsKnownWith k (MayJudge m s) fact
        by Made so = λ may. so (may_accept may)
        by _ so = so

-- a fact that holds is known
pub known_fact : (j : Judged) (leave fact : Type 0) → fact → IsKnownWith j leave fact
known_fact Made leave fact so = λ m. so
known_fact _ leave fact so = so

-- What was said

-- a step came to something
pub came_told : (t u : TopoView Config) (s z : Taste) (said : Said) → IsSaid t s u z said → (q : Queued) (j : Judged)
    → said ≡ Came j → u ≡ with_said t s.consumer said → is_plain said ≡ true → IsJudged (both t q) s u q z j
came_told t u s z said is q j came mesh plain = search rules

-- a class accepts a shape, and the mesh and the taste are as they were
pub record SaysShape (t u : TopoView Config) (s z : Taste) (shape : Shape) : Type 0 where
  pub mesh : u ≡ t
  pub taste : z ≡ s
  pub accepts : IsAccepting t s shape

-- so it is where that was said
pub said_shape : (t u : TopoView Config) (s z : Taste) (said : Said) → IsSaid t s u z said → (shape : Shape)
    → said ≡ Accepts shape → SaysShape t u s z shape
said_shape t u s z said is shape accepts = search rules

-- what the step comes to then, and what is known after it
pub record ComesOf {E : Type 0} (t : TopoView Config) (q : Queued) (s : Taste) (v : TopoView Config) (r : Queued)
    (y : Taste) (result : Result Judged E) : Type 0 where
  pub judged : IfOk result (IsJudged (both t q) s v r y)
  pub same : OnErr result (AreBoth v r (both t q))
  pub taste : OnErr result (y ≡ s)
  pub settled : IsKnownAfter result (MayJudge (both t q) s) (IsSettled v)
  pub tasting : IsKnownAfter result (MayJudge (both t q) s) (IsTasteOf v y)

module _ {t u : TopoView Config} {s z : Taste} {shape : Shape} (told : SaysShape t u s z shape) where
  -- what held before holds still
  said_still : (P : TopoView Config → Taste → Type 0) → P t s → P u z
  said_still P fact = subst (λ v. P v z) (sym told.mesh) (subst (P t) (sym told.taste) fact)

  -- and what holds then held before
  said_before : (P : TopoView Config → Taste → Type 0) → P u z → P t s
  said_before P fact = subst (λ v. P v s) told.mesh (subst (P u) told.taste fact)

  -- nothing is out then
  pub said_idle : is_read_out z.asked ≡ false
  said_idle = search rules

  -- the place is one
  pub said_place : NamesAPlace shape
  said_place =
      back_named (granted_by t) s (facts_of t.topology told.accepts.provider) shape told.accepts.verdict

  -- the taste goes on
  pub said_goes : IsSome (going u.topology z)
  said_goes = said_still (λ v x. IsSome (going v.topology x)) (ap is_some told.accepts.goes)

  -- its provider is as low as before
  pub said_low : IfSome (provider_at t.topology s.provider) (λ p. rank t.topology p.geom < UNTASTED_RANK)
      → IfSome (provider_at u.topology z.provider) (λ p. rank u.topology p.geom < UNTASTED_RANK)
  said_low low = search rules

  module _ (q : Queued) (v : TopoView Config) (r : Queued) (y : Taste) where
    -- what was taken of it
    abbrev TakesOne : TopoView Config → Taste → Judged → Type 0
    TakesOne w x j =
        (p : Provider) → provider_at w.topology x.provider ≡ Some p → IsTakenAs (both w q) x p shape v r y j

    said_taken : (j : Judged) → TakesOne u z j → IsTakenAs (both t q) s told.accepts.provider shape v r y j
    said_taken j taken =
        said_before (λ w x. TakesOne w x j) taken told.accepts.provider
        (goes_found t.topology s told.accepts.provider told.accepts.goes).1

    -- so much for the whole step
    pub comes_of : {E : Type 0} (result : Result Judged E) → IfOk result (TakesOne u z)
        → OnErr result (AreBoth v r (both u q)) → OnErr result (y ≡ z) → IsSettled u → IsTasteOf u z
        → ComesOf t q s v r y result
    comes_of (Ok j) taken same kept settled tasting =
        search (
          rules,
          said_taken j taken,
          taken_judged (both t q) s v r shape y j told.accepts,
          known_from (both t q) s v r shape y j told.accepts,
        )
    comes_of (Err e) taken same kept settled tasting = search (rules, settled_but u v same.mesh settled)

-- a taste that goes on stands on its provider
pub some_stands : (t : Topology Config) (s : Taste) → IsSome (going t s)
    → IfSome (provider_at t s.provider) (λ p. rank t p.geom < UNTASTED_RANK) → CanStandOn t s.provider
some_stands t s goes low = let x = some_of (going t s) goes in goes_stands t s x.0 x.1 low
