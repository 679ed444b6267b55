-- A Start, a Take and a Deliver lower the measure: the bio is bounced, sent, split, taken or answered.
use Rattle.std.specs.Prelude.{◌≡◌, ◌⊎◌, ℕ, ◌+◌, Bool, true, false, map, sum_by, Option, Some, None, Contains, option_map, zero, suc, ◌≤◌, ◌==◌, List, length, option_and_then, unwrap_or, ◌<◌, [], ◌∷◌, if◌then◌else◌, ◌||◌, find, IsSome, IsTrue}
use Rattle.std.specs.List.{AllByRecursion, enumerate_from}
use Rattle.std.proofs.Common.{inl, inr, refl, subst, sym, ◌∙◌, ap, arith}
use Rattle.std.specs.Option.{option_map_or}
use Rattle.std.proofs.lemmas.Bool.{eq-eqb}
use Rattle.std.proofs.lemmas.List.Elements.{All-contains}
use Rattle.std.proofs.lemmas.List.Sums.{sum_by-append, sum_by-cons}
use Rattle.geo_base.specs.declared.errno.Errno.{Errno}
use Rattle.geo_base.specs.declared.errno.Errno.TheVariants.{EIO}
use Rattle.geo_model.specs.declared.span.Piece.{Piece}
use Rattle.geo_model.specs.Words.{is_flush, change_where}
use Rattle.geo_model.specs.Topology.{Provider, Topology, Geom, Consumer, geom_at, provider_at, consumer_at, provider_of_consumer, provider_with_geom, note_started}
use Rattle.geo_model.specs.World.{World, Bio, Config, Disk, bio_at, change_bio, change_number, is_busy, is_sent, is_down, granted_in}
use Rattle.geo_model.specs.Place.{pieces, component, components, disk_of}
use Rattle.geo_model.specs.Bios.{PieceTarget, piece_targets, piece_child, empty_piece, result_of_device, up_with, Way, Bounces, Fails, Sends, Splits, Passes, way_of, piece_children, start_by, split_bio, disk_of_bio}
use Rattle.geo_model.specs.Order.{down_step, down_steps_within, steps_left, IsLess, measure}
use Rattle.geo_model.proofs.RankLemmas.{mapped_by}
use Rattle.geo_model.specs.declared.step.Phase.{Phase}
use Rattle.geo_model.specs.declared.step.Phase.TheVariants as phases
use Rattle.geo_model.specs.Rank.{rank, Ranked}
use Rattle.geo_model.specs.Fitting.{Firm}
use Rattle.geo_model.proofs.Options.{some_and_of}
use Rattle.geo_model.proofs.DemandLemmas.{all_weaker, rank_within-positive, rank_within-le}
use Rattle.geo_model.specs.declared.step.DeviceResult.{DeviceResult}
use Rattle.geo_model.specs.StepEffects.{IsTaken, IsDelivered}
use Rattle.geo_model.specs.declared.step.BioResult.TheVariants as results
use Rattle.geo_model.specs.SoundBios.{IsBioInOrder, HasCountFor}
use Rattle.geo_laws_graph.proofs.Members.{All-from_contained, map-Contains, find-Contains, Contains-map}
use Rattle.geo_laws_graph.proofs.Numbered.{number_found, unique}
use Rattle.geo_laws_graph.specs.Edges.{Below}
use Rattle.geo_laws_graph.proofs.Climbing.{rank-falls}
use Rattle.geo_laws_graph.proofs.Lists.{changed, changed-keeps, find-changed, length-changed}
use Rattle.geo_laws_counts.proofs.Levels.{of_each}
use Rattle.geo_laws_life.proofs.Found.{one-found}
use Rattle.geo_laws_bios.proofs.Components.{component-among}
use Rattle.geo_laws_bios.proofs.Phases.{can_take, can_deliver}
use Rattle.geo_laws_bios.proofs.Turning.{found_there}
use Rattle.geo_laws_bios.proofs.Restarted.{noted_stays_firm}
use Rattle.geo_laws_bios.proofs.Starting.{SplitsAt, splits_at, counted_elsewhere, splits_by}
use Rattle.geo_laws_maps.specs.Ways.{IsWays, GoesDown, LeadsInto, IsOpen}
use Rattle.geo_laws_maps.proofs.Opened.{live-open, open-down}
use Rattle.geo_laws_rest.proofs.Lowered.{sum_most, commands_of, handles_of, tasting_of, losses_of, bio_steps_of, bios_less, sum_mapped-falls, tasting_same, started_ranks}

-- the piece goes down through a component
abbrev pub IsThrough : Config → PieceTarget → Type 0
IsThrough config z = Contains (components config) z.consumer

-- so for the target of one piece
through_piece : (config : Config) (s : Piece) (z : PieceTarget) (o : Option ℕ) → component config s.child ≡ o
    → option_map (λ c. record { consumer = c; piece = s }) o ≡ Some z → IsThrough config z
through_piece config s z None e found = absurd cc
through_piece config s z (Some c) e found =
    let same : c ≡ z.consumer = cc in
    subst (Contains (components config)) same (component-among config s.child c e)

-- each piece does
through_by : (config : Config) (p : Provider) (x : Bio) (b : Bool) → is_flush x.cmd ≡ b
    → AllByRecursion (IsThrough config) (piece_targets config p x)
through_by config p x true e =
    rw e
    (All-from_contained (IsThrough config)
    (map (λ c. record { consumer = c; piece = empty_piece }) (components config))
    (λ z here.
    let origin = map-Contains (λ c. record { consumer = c; piece = empty_piece }) (components config) z here in
    let same : record { consumer = origin.item; piece = empty_piece } ≡ z = origin.fact in
    let number : origin.item ≡ z.consumer = cc in
    subst (Contains (components config)) number origin.stands))
through_by config p x false e =
    rw e
    (mapped_by (λ (s : Piece). Unit {0}) (IsThrough config)
    (λ (s : Piece). option_map (λ c. record { consumer = c; piece = s }) (component config s.child))
    (λ s z found any. through_piece config s z (component config s.child) refl found)
    (pieces config p x.offset x.len)
    (of_each (λ (s : Piece). Unit {0}) (λ s. tt) (pieces config p x.offset x.len)))

-- so all pieces
all_through : (config : Config) (p : Provider) (x : Bio) → AllByRecursion (IsThrough config)
    (piece_targets config p x)
all_through config p x = through_by config p x (is_flush x.cmd) refl

-- the steps of a bio at a disk, or elsewhere with its children
pub record StepsBelow (config : Config) : Type 0 where
  pub steps : (below : Bio → ℕ) (w : World) (x : Bio) (p : Provider)
      → down_step below w x config p
      ≡ 2 + sum_by (λ target. below (piece_child w.topology w.next_bio x 0 target)) (piece_targets config p x)

-- the configuration of a disk
pub record IsDisk (config : Config) : Type 0 where
  pub disk : ℕ
  pub is : config ≡ Disk disk

-- which of both
disk_or_below : (config : Config) → IsDisk config ⊎ StepsBelow config
disk_or_below (Disk disk) = inl (record { disk = disk; is = refl })
disk_or_below _ = inr (record { steps = λ below w x p. refl })

-- The steps of a bio that goes down, in a graph of which what stands stood in another.

-- Each bio needs two steps at least

-- what stands at a provider needs as many
two_at : (w : World) (x : Bio) (below : Bio → ℕ) (o : Option (Provider × Geom Config))
    → 2 ≤ option_map_or (λ here. down_step below w x here.1.config here.0) o 2
two_at w x below None = omega arith
two_at w x below (Some here) = elim (disk_or_below here.1.config) [
  | inl disk ↦ rw disk.is (omega arith)
  | inr steps ↦ rw (steps.steps below w x here.0) (omega arith)
]

-- over any levels
two_steps : (levels : ℕ) (w : World) (x : Bio) → 2 ≤ down_steps_within levels w x
two_steps zero w x = omega arith
two_steps (suc levels) w x = two_at w x (down_steps_within levels w) (provider_with_geom w.topology x.target)

-- Two graphs

-- the geom is found, or another one with its configuration
pub record StandsAs (x : Geom Config) (o : Option (Geom Config)) : Type 0 where
  pub other : Geom Config
  pub found : o ≡ Some other
  pub config : other.config ≡ x.config

-- what stands in the second graph stood in the first
pub record Keeps (t u : Topology Config) : Type 0 where
  pub providers : (p : ℕ) (x : Provider) → provider_at u p ≡ Some x → provider_at t p ≡ Some x
  pub geoms : (g : ℕ) (x : Geom Config) → geom_at u g ≡ Some x → StandsAs x (geom_at t g)
  pub consumers : (c : ℕ) (x : Consumer) → consumer_at u c ≡ Some x → consumer_at t c ≡ Some x

-- so in a graph itself
pub keeps_itself : (t : Topology Config) → Keeps t t
keeps_itself t = record {
  providers = λ p x found. found;
  geoms = λ g x found. record { other = x; found = found; config = refl };
  consumers = λ c x found. found;
}

-- two bios ask for the same
pub record IsLike (y x : Bio) : Type 0 where
  pub cmd : y.cmd ≡ x.cmd
  pub offset : y.offset ≡ x.offset
  pub len : y.len ≡ x.len
  pub target : y.target ≡ x.target

-- so their pieces are the same
same_targets : (config : Config) (p : Provider) (y x : Bio) → IsLike y x
    → piece_targets config p y ≡ piece_targets config p x
same_targets config p y x like = rw (like.cmd, like.offset, like.len) refl

-- what is found of a provider with its geom
with_geom : (t : Topology Config) (p : ℕ) (x : Provider) (g : Geom Config) → provider_at t p ≡ Some x
    → geom_at t x.geom ≡ Some g → provider_with_geom t p ≡ Some (x, g)
with_geom t p x g found of = rw (found, of) refl

module _ (v w : World) (U : ℕ → Type 0) (ways : IsWays v.topology U) (ranked : Ranked v.topology)
    (keeps : Keeps w.topology v.topology) where
  -- the levels are no fewer than others, or enough for the rank of the geom of a provider
  abbrev pub Enough : ℕ → ℕ → ℕ → Type 0
  Enough levels more p =
      (levels ≤ more) ⊎ ((x : Provider) → provider_at v.topology p ≡ Some x → rank v.topology x.geom ≤ more)

  -- no level isn't enough for one
  none_enough : (levels p : ℕ) (d : GoesDown v.topology U p) → Enough (suc levels) zero p → ⊥
  none_enough levels p d (inl most) = omega (arith, most)
  none_enough levels p d (inr low) =
      let zero_rank = low d.provider d.found in
      omega (arith, zero_rank, rank_within-positive (length v.topology.geoms) v.topology d.provider.geom)

  -- a piece goes down to a provider of the set
  target_is : (p : ℕ) (d : GoesDown v.topology U p) (c : ℕ) (leads : LeadsInto v.topology U d.geom c)
      → provider_of_consumer v.topology c ≡ Some leads.under
  target_is p d c leads = rw leads.found leads.attached

  -- so in the other graph
  target_was : (p : ℕ) (d : GoesDown v.topology U p) (c : ℕ) (leads : LeadsInto v.topology U d.geom c)
      → provider_of_consumer w.topology c ≡ Some leads.under
  target_was p d c leads =
      let found : consumer_at w.topology c ≡ Some leads.consumer = keeps.consumers c leads.consumer leads.found in
      rw found leads.attached

  -- one level less is enough there
  enough_below : (levels more p : ℕ) (d : GoesDown v.topology U p) (c : ℕ) (leads : LeadsInto v.topology U d.geom c)
      → Enough (suc levels) (suc more) p → Enough levels more leads.under
  enough_below levels more p d c leads (inl most) = inl (omega (arith, most))
  enough_below levels more p d c leads (inr low) = inr (λ x found.
      let edge : Below v.topology d.provider.geom x.geom = record {
        consumer = leads.consumer;
        stands = find-Contains (λ (z : Consumer). z.number == c) v.topology.consumers leads.consumer leads.found;
        above = leads.own ∙ number_found (λ
            (z : Geom Config). z.number) v.topology.geoms d.provider.geom d.geom d.of;
        provider = x;
        attached = ap (option_and_then (provider_at v.topology)) leads.attached ∙ found;
        below = refl;
      } in
      omega (arith, low d.provider d.found, rank-falls v.topology ranked d.provider.geom x.geom edge))

  -- a child that goes there is like the other child
  like_child : (y x : Bio) (z : PieceTarget) → IsLike y x
      → provider_of_consumer v.topology z.consumer ≡ provider_of_consumer w.topology z.consumer
      → IsLike (piece_child v.topology v.next_bio y 0 z) (piece_child w.topology w.next_bio x 0 z)
  like_child y x z like same = record {
    cmd = like.cmd;
    offset = refl;
    len = refl;
    target = ap (λ (o : Option ℕ). unwrap_or o 0) same;
  }

  -- at one level, where it holds below
  down_at : (levels more : ℕ) (y x : Bio) (d : GoesDown v.topology U y.target) (h : Geom Config)
      → h.config ≡ d.geom.config → IsLike y x
      → ((z : PieceTarget) → IsThrough d.geom.config z
      → down_steps_within levels v (piece_child v.topology v.next_bio y 0 z)
      ≤ down_steps_within more w (piece_child w.topology w.next_bio x 0 z))
      → down_step (down_steps_within levels v) v y d.geom.config d.provider
      ≤ down_step (down_steps_within more w) w x h.config d.provider
  down_at levels more y x d h same like below =
      rw same
      (elim (disk_or_below d.geom.config) [
        | inl disk ↦ rw disk.is (omega arith)
        | inr steps ↦
            let left = steps.steps (down_steps_within levels v) v y d.provider in
            let right = steps.steps (down_steps_within more w) w x d.provider in
            let most : sum_by (λ z. down_steps_within levels v (piece_child v.topology v.next_bio y 0 z))
            (piece_targets d.geom.config d.provider y)
            ≤ sum_by (λ z. down_steps_within more w (piece_child w.topology w.next_bio x 0 z))
            (piece_targets d.geom.config d.provider x) =
            subst
            (λ (zs : List PieceTarget).
            sum_by (λ z. down_steps_within levels v (piece_child v.topology v.next_bio y 0 z))
            (piece_targets d.geom.config d.provider y)
            ≤ sum_by (λ z. down_steps_within more w (piece_child w.topology w.next_bio x 0 z)) zs)
            (same_targets d.geom.config d.provider y x like)
            (sum_most
            (λ z. down_steps_within levels v (piece_child v.topology v.next_bio y 0 z))
            (λ z. down_steps_within more w (piece_child w.topology w.next_bio x 0 z))
            (piece_targets d.geom.config d.provider y)
            (all_weaker (IsThrough d.geom.config)
            (λ z. down_steps_within levels v (piece_child v.topology v.next_bio y 0 z)
            ≤ down_steps_within more w (piece_child w.topology w.next_bio x 0 z))
            below (piece_targets d.geom.config d.provider y) (all_through d.geom.config d.provider y))) in
            rw (left, right) (omega (arith, most))
      ])

  -- a bio that goes down needs no more steps than it needed
  down_most : (levels more : ℕ) (y x : Bio) → U y.target → IsLike y x → Enough levels more y.target
      → down_steps_within levels v y ≤ down_steps_within more w x
  down_most zero more y x inside like enough = two_steps more w x
  down_most (suc levels) zero y x inside like enough =
      absurd (none_enough levels y.target (ways y.target inside) enough)
  down_most (suc levels) (suc more) y x inside like enough =
      let d : GoesDown v.topology U y.target = ways y.target inside in
      let stood : StandsAs d.geom (geom_at w.topology d.provider.geom) =
      keeps.geoms d.provider.geom d.geom d.of in
      let here : provider_with_geom v.topology y.target ≡ Some (d.provider, d.geom) =
      with_geom v.topology y.target d.provider d.geom d.found d.of in
      let there : provider_with_geom w.topology x.target ≡ Some (d.provider, stood.other) =
      subst (λ (n : ℕ). provider_with_geom w.topology n ≡ Some (d.provider, stood.other)) like.target
      (with_geom w.topology y.target d.provider stood.other (keeps.providers y.target d.provider d.found)
      stood.found) in
      rw (here, there)
      (down_at levels more y x d stood.other stood.config like (λ z through.
      let leads : LeadsInto v.topology U d.geom z.consumer = d.below z.consumer through in
      let is : provider_of_consumer v.topology z.consumer ≡ Some leads.under =
      target_is y.target d z.consumer leads in
      let was : provider_of_consumer w.topology z.consumer ≡ Some leads.under =
      target_was y.target d z.consumer leads in
      let goes : leads.under ≡ unwrap_or (provider_of_consumer v.topology z.consumer) 0 =
      sym (ap (λ (o : Option ℕ). unwrap_or o 0) is) in
      down_most levels more (piece_child v.topology v.next_bio y 0 z) (piece_child w.topology w.next_bio x 0 z)
      (subst U goes leads.inside) (like_child y x z like (is ∙ sym was))
      (subst (Enough levels more) goes (enough_below levels more y.target d z.consumer leads enough))))

-- a bio of a firm mesh needs no more steps than it needed where more stood
steps_most : (v w : World) → Firm v → Keeps w.topology v.topology
    → length v.topology.geoms ≤ length w.topology.geoms
    → (x : Bio) → Contains v.bios x → (phase : Phase) → steps_left v x phase ≤ steps_left w x phase
steps_most v w firm keeps fewer x here phases.Down =
    down_most v w (IsOpen v) (open-down v firm) firm.graph.ranks.ranked keeps
    (length v.topology.geoms) (length w.topology.geoms) x x
    (live-open v firm x here) (record { cmd = refl; offset = refl; len = refl; target = refl }) (inl fewer)
steps_most v w firm keeps fewer x here _ = omega arith

-- A step of bios lets the steps fall that bios still need.

-- the steps that a bio still needs
abbrev pub steps_of : World → Bio → ℕ
steps_of w x = steps_left w x x.phase

-- from the one world to the other the steps of bios fall, and what comes before them doesn't rise
pub record BiosFall (v w : World) : Type 0 where
  pub commands : commands_of v ≤ commands_of w
  pub handles : handles_of v ≤ handles_of w
  pub tasting : tasting_of v ≤ tasting_of w
  pub losses : losses_of v ≤ losses_of w
  pub steps : bio_steps_of v < bio_steps_of w

-- so by each in turn
pub only_steps : (v w : World) → commands_of v ≤ commands_of w → handles_of v ≤ handles_of w
    → tasting_of v ≤ tasting_of w → losses_of v ≤ losses_of w → bio_steps_of v < bio_steps_of w → BiosFall v w
only_steps v w a b c d less = record { commands = a; handles = b; tasting = c; losses = d; steps = less }

-- so the measure does
pub falls_less : (v w : World) → BiosFall v w → IsLess (measure v) (measure w)
falls_less v w falls = bios_less v w falls.commands falls.handles falls.tasting falls.losses falls.steps

-- twice
pub falls_twice : (u v w : World) → BiosFall u v → BiosFall v w → BiosFall u w
falls_twice u v w one two = grind arith

-- the bios of a firm mesh need no more steps than they need where more stands
pub now_most : (v w : World) → Firm v → Keeps w.topology v.topology → length v.topology.geoms
    ≤ length w.topology.geoms
    → bio_steps_of v ≤ sum_by (steps_of w) v.bios
now_most v w firm keeps fewer =
    sum_most (steps_of v) (steps_of w) v.bios
    (All-from_contained (λ (x : Bio). steps_of v x ≤ steps_of w x) v.bios
    (λ x here. steps_most v w firm keeps fewer x here x.phase))

-- an item that is changed, or isn't, counts no more
changed_most : (w : World) (x : Bio) (change : Bio → Bio) → steps_of w (change x) ≤ steps_of w x →
    (y : Bio) (b : Bool)
    → (y.number == x.number) ≡ b → ((y.number == x.number) ≡ true → y ≡ x)
    → steps_of w (if y.number == x.number then change y else y) ≤ steps_of w y
changed_most w x change most y true e is =
    rw e (subst (λ (z : Bio). steps_of w (change z) ≤ steps_of w z) (sym (is e)) most)
changed_most w x change most y false e is = rw e (omega arith)

-- so for each of a list in which no other has its number
pub all_most : (w : World) (x : Bio) (change : Bio → Bio) → steps_of w (change x) ≤ steps_of w x → (ys : List Bio)
    → AllByRecursion (λ (y : Bio). (y.number == x.number) ≡ true → y ≡ x) ys
    → AllByRecursion (λ (y : Bio). steps_of w (if y.number == x.number then change y else y) ≤ steps_of w y) ys
all_most w x change most [] same = tt
all_most w x change most (y ∷ ys) same =
    (changed_most w x change most y (y.number == x.number) refl same.0, all_most w x change most ys same.1)

-- where one bio of a firm mesh is changed, the steps fall as its own do
pub changed_falls : (w : World) → Firm w → (x : Bio) → bio_at w x.number ≡ Some x → (change : Bio → Bio) (d : ℕ)
    → steps_of w (change x) + d ≤ steps_of w x
    → sum_by (steps_of w) (change_number x.number change w.bios) + d ≤ bio_steps_of w
changed_falls w firm x found change d falls =
    let same = unique (λ (y : Bio). y.number) w.next_bio x.number w.bios x firm.bios.numbers found in
    let itself : (x.number == x.number) ≡ true = eq-eqb x.number x.number refl in
    sum_mapped-falls (steps_of w) (steps_of w) (λ y. if y.number == x.number then change y else y) w.bios x d
    (all_most w x change (omega (arith, falls)) w.bios same)
    (find-Contains (λ (y : Bio). y.number == x.number) w.bios x found) (rw itself falls)

-- the world with other bios, and no other change
abbrev pub with_steps : World → List Bio → World
with_steps w bios = record w { bios = bios }

-- where these bios need fewer steps, the steps fall
pub steps_fall : (w : World) (bios : List Bio) → Firm (with_steps w bios)
    → sum_by (steps_of w) bios + 1 ≤ bio_steps_of w
    → BiosFall (with_steps w bios) w
steps_fall w bios firm less =
    let now = now_most (with_steps w bios) w firm (keeps_itself w.topology) (omega arith) in
    only_steps (with_steps w bios) w (omega arith) (omega arith) (omega arith) (omega arith) (omega (arith, now, less))

-- so where one bio is changed that needs fewer steps then
change_falls : (w : World) → Firm w → (x : Bio) → bio_at w x.number ≡ Some x → (change : Bio → Bio)
    → steps_of w (change x) < steps_of w x → Firm (with_steps w (change_number x.number change w.bios))
    → BiosFall (with_steps w (change_number x.number change w.bios)) w
change_falls w firm x found change less after =
    steps_fall w (change_number x.number change w.bios) after
    (changed_falls w firm x found change 1 (omega (arith, less)))

-- Take and Deliver

-- a Busy bio needs two steps
busy_steps : (w : World) (x : Bio) (phase : Phase) → is_busy phase ≡ true → steps_left w x phase ≡ 2
busy_steps w x (phases.Busy seat) is = refl
busy_steps w x _ is = absurd cc

-- one that is Sent needs three
sent_steps : (w : World) (x : Bio) (phase : Phase) → is_sent phase ≡ true → steps_left w x phase ≡ 3
sent_steps w x phases.Sent is = refl
sent_steps w x _ is = absurd cc

-- a bio that is taken
pub taken_falls : (w : World) → Firm w → (seat disk b : ℕ) (x : Bio) → IsTaken w disk b x
    → Firm (change_bio w x.number (λ y. record y { phase = phases.Busy seat }))
    → BiosFall (change_bio w x.number (λ y. record y { phase = phases.Busy seat })) w
taken_falls w firm seat disk b x is after =
    let can = can_take w disk x is.free in
    change_falls w firm x (found_there w b x is.found) (λ y. record y { phase = phases.Busy seat })
    (omega (arith, sent_steps w x x.phase can.sent)) after

-- a bio that is delivered
pub delivered_falls : (w : World) → Firm w → (seat b : ℕ) (got : DeviceResult) (x : Bio) → IsDelivered w seat b got x
    → Firm (change_bio w x.number (up_with (result_of_device got)))
    → BiosFall (change_bio w x.number (up_with (result_of_device got))) w
delivered_falls w firm seat b got x is after =
    let can = can_deliver w seat x got x.phase is.fits in
    change_falls w firm x (found_there w b x is.found) (up_with (result_of_device got))
    (omega (arith, busy_steps w x x.phase can.0)) after

-- A Start lowers the measure: the bio is bounced, sent or split.

-- a bio that is Down needs its steps on the way down
down_phase : (w : World) (x : Bio) (phase : Phase) → is_down phase ≡ true
    → steps_left w x phase ≡ down_steps_within (length w.topology.geoms) w x
down_phase w x phases.Down is = refl
down_phase w x _ is = absurd cc

-- Sent to a disk

-- a configuration with a disk is a disk's
some_disk : (config : Config) → IsSome (disk_of config) → IsDisk config
some_disk (Disk disk) some = record { disk = disk; is = refl }
some_disk _ some = absurd cc

-- what is found in a list is in it, so it has a length
some_length : {X : Type 0} (test : X → Bool) (xs : List X) (x : X) → find test xs ≡ Some x → 1 ≤ length xs
some_length test [] x found = absurd cc
some_length test (y ∷ ys) x found = omega arith

-- at a disk's provider, over one level and more, four steps are needed
disk_steps : (levels : ℕ) (w : World) (x : Bio) (p : Provider) (g : Geom Config) → 1 ≤ levels
    → provider_with_geom w.topology x.target ≡ Some (p, g) → IsDisk g.config → down_steps_within levels w x ≡ 4
disk_steps zero w x p g some found disk = absurd (omega arith)
disk_steps (suc levels) w x p g some found disk = rw (found, disk.is) refl

-- by the geom that is found
sent_geom : (w : World) (x : Bio) (p : Provider) (o : Option (Geom Config))
    → provider_at w.topology x.target ≡ Some p
    → geom_at w.topology p.geom ≡ o → IsSome (disk_of_bio w x)
    → down_steps_within (length w.topology.geoms) w x ≡ 4
sent_geom w x p None found of some = absurd (let bad : IsSome {T = ℕ} None = rw (found, of) at some in cc)
sent_geom w x p (Some g) found of some =
    let disk : IsSome (disk_of g.config) = rw (found, of) at some in
    disk_steps (length w.topology.geoms) w x p g
    (some_length (λ (y : Geom Config). y.number == p.geom) w.topology.geoms g of)
    (with_geom w.topology x.target p g found of) (some_disk g.config disk)

-- by the provider
sent_provider : (w : World) (x : Bio) (o : Option Provider) → provider_at w.topology x.target ≡ o
    → IsSome (disk_of_bio w x) → down_steps_within (length w.topology.geoms) w x ≡ 4
sent_provider w x None found some = absurd (let bad : IsSome {T = ℕ} None = rw found at some in cc)
sent_provider w x (Some p) found some = sent_geom w x p (geom_at w.topology p.geom) found refl some

-- Split

-- a configuration without a disk isn't a disk's
steps_below : (config : Config) → disk_of config ≡ None → StepsBelow config
steps_below config none = elim (disk_or_below config) [
  | inl disk ↦ (let bad : Some disk.disk ≡ None = sym (ap disk_of disk.is) ∙ none in absurd cc)
  | inr below ↦ below
]

-- over one level and more, the steps of a bio that is split are two and those of its children
split_steps : (levels : ℕ) (w : World) (x : Bio) (p : Provider) (g : Geom Config)
    → provider_with_geom w.topology x.target ≡ Some (p, g) → StepsBelow g.config
    → down_steps_within (suc levels) w x
    ≡ 2 + sum_by (λ z. down_steps_within levels w (piece_child w.topology w.next_bio x 0 z))
    (piece_targets g.config p x)
split_steps levels w x p g found below = rw found (below.steps (down_steps_within levels w) w x p)

-- children, each of which needs no more steps than over so many levels
children_most : (w : World) (x : Bio) (levels k : ℕ) (zs : List PieceTarget)
    → AllByRecursion (λ z. (i : ℕ) → down_steps_within (length w.topology.geoms) w
    (piece_child w.topology w.next_bio x i z)
    ≤ down_steps_within levels w (piece_child w.topology w.next_bio x 0 z)) zs
    → sum_by (steps_of w) (map (λ item. piece_child w.topology w.next_bio x item.0 item.1) (enumerate_from k zs))
    ≤ sum_by (λ z. down_steps_within levels w (piece_child w.topology w.next_bio x 0 z)) zs
children_most w x levels k [] most = omega arith
children_most w x levels k (z ∷ zs) most =
    omega (
      arith,
      sum_by-cons (steps_of w) (piece_child w.topology w.next_bio x k z)
          (map (λ item. piece_child w.topology w.next_bio x item.0 item.1) (enumerate_from (k + 1) zs)),
      sum_by-cons (λ y. down_steps_within levels w (piece_child w.topology w.next_bio x 0 y)) z zs,
      most.0 k,
      children_most w x levels (k + 1) zs most.1,
    )

module _ (w : World) (firm : Firm w) (x : Bio) (here : Contains w.bios x) where
  -- the graph
  abbrev t : Topology Config
  t = w.topology

  -- the bio's provider stands, and what is below it is open
  d : GoesDown t (IsOpen w) x.target
  d = open-down w firm x.target (live-open w firm x here)

  -- the rank of its geom is no greater than the number of geoms, since the bio's source is above it
  low : (p : Provider) → provider_at t x.target ≡ Some p → rank t p.geom ≤ length t.geoms
  low p found =
      let order : IsBioInOrder (granted_in w) t x =
      All-contains (IsBioInOrder (granted_in w) t) w.bios x firm.bios.order here in
      let s = some_and_of (λ (c : Consumer). (c.provider ≡ Some x.target) × HasCountFor (granted_in w) t x c)
      (consumer_at t x.source) order.source in
      let edge : Below t s.0.geom p.geom = record {
        consumer = s.0;
        stands = find-Contains (λ (z : Consumer). z.number == x.source) t.consumers s.0 s.1;
        above = refl;
        provider = p;
        attached = ap (option_and_then (provider_at t)) s.2.0 ∙ found;
        below = refl;
      } in
      omega (
        arith,
        rank-falls t firm.graph.ranks.ranked s.0.geom p.geom edge,
        rank_within-le (length t.geoms) t s.0.geom,
      )

  module _ (p : Provider) (found : provider_at t x.target ≡ Some p) (g : Geom Config)
      (of : geom_at t p.geom ≡ Some g) where
    -- what is below a component
    leads : (c : ℕ) → Contains (components g.config) c → LeadsInto t (IsOpen w) g c
    leads c among =
        let down : GoesDown t (IsOpen w) x.target = open-down w firm x.target (live-open w firm x here) in
        let provider : down.provider ≡ p = one-found (provider_at t x.target) down.provider p down.found found in
        let geom : down.geom ≡ g =
        one-found (geom_at t p.geom) down.geom g
        (subst (λ (q : Provider). geom_at t q.geom ≡ Some down.geom) provider down.of) of in
        subst (λ (h : Geom Config). LeadsInto t (IsOpen w) h c) geom
        (down.below c (subst (λ (h : Geom Config). Contains (components h.config) c) (sym geom) among))

    -- a child needs no more steps over all levels than over one less
    child_most : (levels i : ℕ) (z : PieceTarget) → length t.geoms ≡ suc levels → IsThrough g.config z
        → down_steps_within (length t.geoms) w (piece_child t w.next_bio x i z)
        ≤ down_steps_within levels w (piece_child t w.next_bio x 0 z)
    child_most levels i z many through =
        let into : LeadsInto t (IsOpen w) g z.consumer = leads z.consumer through in
        let is : provider_of_consumer t z.consumer ≡ Some into.under = rw into.found into.attached in
        let goes : into.under ≡ unwrap_or (provider_of_consumer t z.consumer) 0 =
        sym (ap (λ (o : Option ℕ). unwrap_or o 0) is) in
        down_most w w (IsOpen w) (open-down w firm) firm.graph.ranks.ranked (keeps_itself t)
        (length t.geoms) levels (piece_child t w.next_bio x i z) (piece_child t w.next_bio x 0 z)
        (subst (IsOpen w) goes into.inside) (record { cmd = refl; offset = refl; len = refl; target = refl })
        (inr (λ q at.
        let edge : Below t p.geom q.geom = record {
          consumer = into.consumer;
          stands = find-Contains (λ (y : Consumer). y.number == z.consumer) t.consumers into.consumer into.found;
          above = into.own ∙ number_found (λ (y : Geom Config). y.number) t.geoms p.geom g of;
          provider = q;
          attached = ap (option_and_then (provider_at t)) into.attached
              ∙ subst (λ (n : ℕ). provider_at t n ≡ Some q) (sym goes) at;
          below = refl;
        } in
        omega (arith, rank-falls t firm.graph.ranks.ranked p.geom q.geom edge, low p found, many)))

    -- what the bio needs is two more than its children
    split_most : (levels : ℕ) → length t.geoms ≡ levels → disk_of g.config ≡ None
        → 2 + sum_by (steps_of w) (piece_children t w.next_bio x (piece_targets g.config p x))
        ≤ down_steps_within (length t.geoms) w x
    split_most zero many none =
        absurd
        (omega (arith, many, some_length (λ (y : Geom Config). y.number == p.geom) t.geoms g of))
    split_most (suc levels) many none =
        let needs : down_steps_within (length t.geoms) w x
        ≡ 2 + sum_by (λ z. down_steps_within levels w (piece_child t w.next_bio x 0 z))
        (piece_targets g.config p x) =
        ap (λ (n : ℕ). down_steps_within n w x) many
        ∙ split_steps levels w x p g (with_geom t x.target p g found of) (steps_below g.config none) in
        let most = children_most w x levels 0 (piece_targets g.config p x)
        (all_weaker (IsThrough g.config)
        (λ z. (i : ℕ) → down_steps_within (length t.geoms) w (piece_child t w.next_bio x i z)
        ≤ down_steps_within levels w (piece_child t w.next_bio x 0 z))
        (λ z through i. child_most levels i z many through)
        (piece_targets g.config p x) (all_through g.config p x)) in
        omega (arith, needs, most)

-- a bio that is split lets the steps fall
split_falls : (w : World) (firm : Firm w) (x : Bio) → bio_at w x.number ≡ Some x → is_down x.phase ≡ true
    → (targets : List PieceTarget) → SplitsAt w.topology x targets → Firm (split_bio w x targets).0
    → BiosFall (split_bio w x targets).0 w
split_falls w firm x found down targets s after =
    let here : Contains w.bios x = find-Contains (λ (y : Bio). y.number == x.number) w.bios x found in
    let v : World = (split_bio w x targets).0 in
    let turned : List Bio = change_number x.number (λ y. record y { phase = phases.Waiting }) w.bios in
    let children : List Bio = piece_children w.topology w.next_bio x targets in
    let was = down_phase w x x.phase down in
    let most : 2 + sum_by (steps_of w) children ≤ down_steps_within (length w.topology.geoms) w x =
    subst (λ (zs : List PieceTarget). 2 + sum_by (steps_of w) (piece_children w.topology w.next_bio x zs)
    ≤ down_steps_within (length w.topology.geoms) w x) (sym s.are)
    (split_most w firm x here s.provider s.to_it s.geom s.of_it (length w.topology.geoms) refl s.no_disk) in
    let others : sum_by (steps_of w) turned + (1 + sum_by (steps_of w) children) ≤ bio_steps_of w =
    changed_falls w firm x found (λ y. record y { phase = phases.Waiting }) (1 + sum_by (steps_of w) children)
    (omega (arith, was, most)) in
    let now = now_most v w after (keeps_itself w.topology) (omega arith) in
    let all = sum_by-append (steps_of w) turned children in
    only_steps v w (omega arith) (omega arith) (omega arith) (omega arith) (omega (arith, now, all, others))

-- a bio that is Down and goes back lets them fall
bounce_falls : (w : World) (firm : Firm w) (x : Bio) (e : Errno) → bio_at w x.number ≡ Some x
    → is_down x.phase ≡ true
    → Firm (with_steps w (change_number x.number (up_with (results.Failed e)) w.bios))
    → BiosFall (with_steps w (change_number x.number (up_with (results.Failed e)) w.bios)) w
bounce_falls w firm x e found down after =
    change_falls w firm x found (up_with (results.Failed e))
    (omega (arith, down_phase w x x.phase down, two_steps (length w.topology.geoms) w x)) after

-- At a NOP geom

-- the world in which a geom has started one more request
abbrev counted : World → ℕ → World
counted w n = record w { topology = note_started w.topology n }

-- what is found after a change was found before
pub found_was : {X : Type 0} (hit : X → Bool) (change : X → X) (test : X → Bool)
    → ((x : X) → hit x ≡ true → test (change x) ≡ test x) → (xs : List X) (y : X)
    → find test (change_where hit change xs) ≡ Some y
    → (x : X) × (find test xs ≡ Some x) × (changed hit change x ≡ y)
found_was {X} hit change test same xs y found =
    by (find test xs) refl (sym (find-changed hit change test same xs) ∙ found)
  where
    -- by what was found
    by : (o : Option X) → find test xs ≡ o → option_map (changed hit change) o ≡ Some y
        → (x : X) × (find test xs ≡ Some x) × (changed hit change x ≡ y)
    by None e is = absurd cc
    by (Some x) e is = (x, e, (let made : changed hit change x ≡ y = cc in made))

-- a geom that is found, counted or not, stood with its configuration
counted_geom : (t : Topology Config) (n g : ℕ) (x : Geom Config) → geom_at (note_started t n) g ≡ Some x
    → StandsAs x (geom_at t g)
counted_geom t n g x found =
    let was = found_was (λ (y : Geom Config). y.number == n) (λ y. record y { started = y.started + 1 })
    (λ y. y.number == g) (λ y h. refl) t.geoms x found in
    record {
      other = was.0;
      found = was.1;
      config =
          sym (changed-keeps (λ (z : Geom Config). z.number == n) (λ z. record z { started = z.started + 1 })
          (λ z. z.config) (λ z h. refl) was.0) ∙ ap (λ (z : Geom Config). z.config) was.2;
    }

-- where a geom has started one more, what stands stood
counted_keeps : (t : Topology Config) (n : ℕ) → Keeps t (note_started t n)
counted_keeps t n = record {
  providers = λ p x found. found;
  geoms = counted_geom t n;
  consumers = λ c x found. found;
}

-- so the steps of bios don't rise
counted_most : (w : World) (n : ℕ) → Firm w → bio_steps_of (counted w n) ≤ bio_steps_of w
counted_most w n firm =
    now_most (counted w n) w (noted_stays_firm w n firm) (counted_keeps w.topology n)
    (let same = length-changed (λ (y : Geom Config). y.number == n) (λ y. record y { started = y.started + 1 })
    w.topology.geoms in omega (arith, same))

-- from a world with such a count the steps fall as from the world
counted_falls : (v w : World) (n : ℕ) → Firm w → BiosFall v (counted w n) → BiosFall v w
counted_falls v w n firm falls =
    let same = tasting_same (counted w n) w (started_ranks w.topology n) refl refl in
    let most = counted_most w n firm in
    only_steps v w falls.commands falls.handles (subst (λ (m : ℕ). tasting_of v ≤ m) same falls.tasting) falls.losses
    (omega (arith, falls.steps, most))

-- The ways of a Start

-- a bio that is Down and sent lets the steps fall
send_falls : (w : World) (firm : Firm w) (x : Bio) → bio_at w x.number ≡ Some x → is_down x.phase ≡ true
    → Firm (with_steps w (change_number x.number (λ y. record y { phase = phases.Sent }) w.bios))
    → BiosFall (with_steps w (change_number x.number (λ y. record y { phase = phases.Sent }) w.bios)) w
send_falls w firm x found down after =
    let v : World = with_steps w (change_number x.number (λ y. record y { phase = phases.Sent }) w.bios) in
    let here : Contains w.bios x = find-Contains (λ (y : Bio). y.number == x.number) w.bios x found in
    let itself : (x.number == x.number) ≡ true = eq-eqb x.number x.number refl in
    let among : Contains v.bios (if x.number == x.number then record x { phase = phases.Sent } else x) =
    Contains-map (λ (y : Bio). if y.number == x.number then record y { phase = phases.Sent } else y)
    w.bios x here in
    let there : Contains v.bios (record x { phase = phases.Sent }) = rw itself at among in
    let disk : IsSome (disk_of_bio w x) =
    All-contains (λ (y : Bio). IsTrue (is_sent y.phase || is_busy y.phase) → IsSome (disk_of_bio v y)) v.bios
    (record x { phase = phases.Sent }) after.bios.disks.at_disk there refl in
    let four = sent_provider w x (provider_at w.topology x.target) refl disk in
    change_falls w firm x found (λ y. record y { phase = phases.Sent })
    (omega (arith, down_phase w x x.phase down, four)) after

-- by the way
pub start_way : (w : World) (x : Bio) (way : Way) → bio_at w x.number ≡ Some x → is_down x.phase ≡ true
    → way_of w.topology x ≡ way → Firm w → Firm (start_by w x way).0 → BiosFall (start_by w x way).0 w
start_way w x (Bounces e) found down is firm after = bounce_falls w firm x e found down after
start_way w x (Fails n) found down is firm after =
    counted_falls (start_by w x (Fails n)).0 w n firm
    (bounce_falls (counted w n) (noted_stays_firm w n firm) x EIO found down after)
start_way w x (Sends disk) found down is firm after = send_falls w firm x found down after
start_way w x (Splits targets) found down is firm after =
    split_falls w firm x found down targets (splits_at w.topology x targets (ap splits_by is)) after
start_way w x (Passes n targets) found down is firm after =
    let s = splits_at w.topology x targets (ap splits_by is) in
    counted_falls (start_by w x (Passes n targets)).0 w n firm
    (split_falls (counted w n) (noted_stays_firm w n firm) x found down targets
    (counted_elsewhere w.topology x targets n s) after)
