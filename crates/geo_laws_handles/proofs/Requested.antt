-- A request through a handle keeps a firm mesh firm, whether it is refused or not.
use Rattle.std.specs.Prelude.{◌≡◌, ◌≢◌, ℕ, ◌+◌, ◌<◌, ◌≤◌, ◌%◌, ◌==◌, nat_lt, Bool, true, false, not, ◌&&◌, ◌||◌, List, [], ◌∷◌, find, Option, Some, None, Contains, IsTrue, option_and_then, if◌then◌else◌, unwrap_or}
use Rattle.std.specs.Option.{option_map_or}
use Rattle.std.proofs.Common.{inl, refl, sym, ◌∙◌, ap, subst, arith}
use Rattle.std.proofs.lemmas.Bool.{eq-eqb, eqb-true, eqb-false, or_parts, not-false, ltb-false, not-true}
use Rattle.geo_base.proofs.FindLists.{none_passes}
use Rattle.geo_base.specs.declared.request.Counts.{Counts}
use Rattle.geo_base.specs.declared.errno.Errno.{Errno}
use Rattle.geo_base.specs.declared.errno.Errno.TheVariants.{ENXIO, EPERM, EINVAL, EIO}
use Rattle.geo_base.specs.declared.limits.TheConstants.{MAX_REQUEST_BYTES}
use Rattle.geo_model.specs.declared.step.Owner.TheVariants as owners
use Rattle.geo_model.specs.Words.{first_error, same_name, names_number, is_read, is_flush}
use Rattle.geo_model.specs.Topology.{Topology, Provider, Consumer, provider_at, consumer_at, provider_of_consumer}
use Rattle.geo_model.specs.Demand.{want}
use Rattle.geo_model.specs.World.{World, Config, Bio, Handle, granted_in, taste_grant, handle_of}
use Rattle.geo_model.specs.Bios.{new_bio, submit}
use Rattle.geo_model.specs.Requests.{Asking, provider_of_handle, is_allowed, is_invalid_range, request_refusal_at, request_refusal}
use Rattle.geo_model.specs.HandleCommands.{request_answered, do_request, record_request}
use Rattle.geo_model.specs.Commands.{request, write_record}
use Rattle.geo_model.specs.CommandEffects.{HasItsBytes, FillsSectors}
use Rattle.geo_model.specs.SoundBios.{IsRangeInside, IsBioInOrder, HasCountFor}
use Rattle.geo_model.specs.Fitting.{Firm}
use Rattle.geo_model.proofs.CommandWalk.{record_bytes}
use Rattle.geo_model.proofs.DemandLemmas.{find_passes}
use Rattle.geo_laws_graph.proofs.Members.{find-Contains}
use Rattle.geo_laws_graph.proofs.Lists.{found_itself}
use Rattle.geo_laws_graph.proofs.Living.{sound-order}
use Rattle.geo_laws_graph.proofs.Numbered.{number_found}
use Rattle.geo_laws_counts.proofs.Upward.{names_some}
use Rattle.geo_laws_counts.proofs.Openers.{wants_grant}
use Rattle.geo_laws_life.proofs.Found.{some-with}
use Rattle.geo_laws_life.proofs.Bare.{holds_grants}
use Rattle.geo_laws_handles.proofs.Closed.{has_dev, one_holder}
use Rattle.geo_laws_graph.proofs.Members.{at_contained}
use Rattle.geo_laws_handles.specs.RequestLaws.{RequestsStayFirm}
use Rattle.geo_laws_handles.proofs.Submitted.{submitted-firm}

-- no error comes where no test holds
none_of : (a b c d : Bool) → first_error ((a, EPERM) ∷ (b, ENXIO) ∷ (c, EINVAL) ∷ (d, EIO) ∷ []) ≡ None
    → (a ≡ false) × (c ≡ false) × (d ≡ false)
none_of true b c d e = absurd (let bad : ⊥ = cc in bad)
none_of false true c d e = absurd (let bad : ⊥ = cc in bad)
none_of false false true d e = absurd (let bad : ⊥ = cc in bad)
none_of false false false true e = absurd (let bad : ⊥ = cc in bad)
none_of false false false false e = (refl, refl, refl)

-- a test that holds but where another one does
only_where : (a b : Bool) → (not a && b) ≡ false → a ≡ false → b ≡ false
only_where true b e off = absurd (let bad : ⊥ = cc in bad)
only_where false b e off = e

-- a number that isn't zero
not_zero : (n : ℕ) → (n == 0) ≡ false → 1 ≤ n
not_zero n e = let some : n ≢ 0 = eqb-false n 0 e in omega arith

-- a grant that allows a command has the count for it
may : (b : Bool) (g : Counts) → not (if b then not (g.r == 0) else not (g.w == 0)) ≡ false
    → (IsTrue b → 0 < g.r) × (b ≡ false → 0 < g.w)
may true g e =
    let some : 1 ≤ g.r = not_zero g.r (not-true (g.r == 0) (not-false (not (g.r == 0)) e)) in
    ((λ is. omega arith), (λ other. absurd (let bad : ⊥ = cc in bad)))
may false g e =
    let some : 1 ≤ g.w = not_zero g.w (not-true (g.w == 0) (not-false (not (g.w == 0)) e)) in
    ((λ is. absurd (let bad : ⊥ = cc in bad)), (λ other. omega arith))

module _ (w : World) (firm : Firm w) (line : ℕ) (h : Handle) (here : Contains w.handles h) (a : Asking)
    (bytes : HasItsBytes a) where
  -- the graph
  abbrev t : Topology Config
  t = w.topology

  -- the grant of its consumer is the handle's
  grant_is : (n : ℕ) → h.consumer ≡ Some n → (o : Option Handle)
      → find (λ (x : Handle). names_number x.consumer n) w.handles ≡ o
      → option_map_or (λ (x : Handle). x.grant) o (taste_grant w.taste n) ≡ h.grant
  grant_is n names None e =
      let named : names_number h.consumer n ≡ true = rw names (eq-eqb n n refl) in
      let unnamed : names_number h.consumer n ≡ false =
      at_contained (λ (x : Handle). names_number x.consumer n ≡ false) w.handles h
      (none_passes (λ (x : Handle). names_number x.consumer n) w.handles e) here in
      absurd (let bad : ⊥ = cc in bad)
  grant_is n names (Some x) e =
      let x_here : Contains w.handles x = find-Contains (λ (y : Handle). names_number y.consumer n) w.handles x e in
      let x_names : x.consumer ≡ Some n =
      names_some x.consumer n (find_passes (λ (y : Handle). names_number y.consumer n) w.handles x e) in
      ap (λ (y : Handle). y.grant) (one_holder w firm h x n here x_here names x_names)

  -- the bio, from a consumer to a provider
  abbrev asked : ℕ → ℕ → Bio
  asked source target =
      new_bio w.next_bio a.cmd a.offset a.len a.bytes source target (owners.Line h.number line)

  module _ (d : Consumer) (d_here : Contains t.consumers d) (dev : d.geom ≡ 1) (names : h.consumer ≡ Some d.number)
      (q : ℕ) (to_it : d.provider ≡ Some q) (p : Provider) (stands : provider_at t q ≡ Some p)
      (passes : request_refusal_at h p a ≡ None) where
    -- the number of the provider
    number : p.number ≡ q
    number = number_found (λ (x : Provider). x.number) t.providers q p stands

    -- the tests
    tests : (not (is_allowed h.grant a.cmd) ≡ false)
        × ((not (is_flush a.cmd) && is_invalid_range p.sector a) ≡ false)
        × ((not (is_flush a.cmd) && nat_lt p.size (a.offset + a.len)) ≡ false)
    tests = none_of (not (is_allowed h.grant a.cmd)) p.errored
        (not (is_flush a.cmd) && is_invalid_range p.sector a)
        (not (is_flush a.cmd) && nat_lt p.size (a.offset + a.len))
        passes

    -- the consumer has the count
    has_count : HasCountFor (granted_in w) t (asked d.number p.number) d
    has_count =
        let is : want (granted_in w) t d ≡ h.grant =
        wants_grant (granted_in w) t d (holds_grants w firm d.geom (inl dev))
        ∙ grant_is d.number names (find (λ (x : Handle). names_number x.consumer d.number) w.handles) refl in
        subst (λ g. (IsTrue (is_read a.cmd) → 0 < g.r) × (is_read a.cmd ≡ false → 0 < g.w)) (sym is)
        (may (is_read a.cmd) h.grant tests.0)

    -- the range is inside the provider
    range : is_flush a.cmd ≡ false → IsRangeInside (asked d.number p.number) p
    range other =
        let valid : is_invalid_range p.sector a ≡ false = only_where (is_flush a.cmd) (is_invalid_range p.sector a)
        tests.1 other in
        let short : nat_lt p.size (a.offset + a.len) ≡ false =
        only_where (is_flush a.cmd) (nat_lt p.size (a.offset + a.len)) tests.2 other in
        let first = or_parts (not (a.offset % p.sector == 0))
        (not (a.len % p.sector == 0) || ((a.len == 0) || nat_lt MAX_REQUEST_BYTES a.len)) valid in
        let second = or_parts (not (a.len % p.sector == 0)) ((a.len == 0) || nat_lt MAX_REQUEST_BYTES a.len) first.1 in
        let third = or_parts (a.len == 0) (nat_lt MAX_REQUEST_BYTES a.len) second.1 in
        record {
          some_byte = not_zero a.len third.0;
          not_long = ltb-false MAX_REQUEST_BYTES a.len third.1;
          offset_whole = eqb-true (a.offset % p.sector) 0 (not-false (a.offset % p.sector == 0) first.0);
          len_whole = eqb-true (a.len % p.sector) 0 (not-false (a.len % p.sector == 0) second.0);
          inside = ltb-false p.size (a.offset + a.len) short;
        }

    -- the bio is in order
    in_order : IsBioInOrder (granted_in w) t (asked d.number p.number)
    in_order =
        let found : consumer_at t d.number ≡ Some d =
        found_itself (λ (x : Consumer). x.number) t.next_consumer t.consumers d
        (sound-order w firm.graph.numbers).consumers d_here in
        let there : provider_at t p.number ≡ Some p = subst (λ n. provider_at t n ≡ Some p) (sym number) stands in
        record {
          source = some-with (consumer_at t d.number)
              (λ c. (c.provider ≡ Some p.number) × HasCountFor (granted_in w) t (asked d.number p.number) c) d found
              (subst (λ n. d.provider ≡ Some n) (sym number) to_it, has_count);
          target = some-with (provider_at t p.number)
              (λ r. is_flush a.cmd ≡ false → IsRangeInside (asked d.number p.number) r) p there range;
          bytes = bytes;
        }

    -- so with it the mesh is firm
    accepted : Firm (submit w a.cmd a.offset a.len a.bytes d.number p.number (owners.Line h.number line))
    accepted =
        submitted-firm w (asked d.number p.number) h.number line firm refl refl refl in_order
        (some-with (find (λ (x : Handle). x.number == h.number) w.handles) (λ x. x.consumer ≡ Some d.number) h
        (found_itself (λ (x : Handle). x.number) w.next_handle w.handles h firm.handles.numbers here) names)

  -- the world of an accepted request
  abbrev made : Option ℕ → Option Provider → World
  made source target =
      submit w a.cmd a.offset a.len a.bytes (unwrap_or source 0) (option_map_or (λ p. p.number) target 0)
      (owners.Line h.number line)

  -- by what its consumer is attached to
  by_attached : (d : Consumer) → Contains t.consumers d → d.geom ≡ 1 → h.consumer ≡ Some d.number → (o : Option ℕ)
      → d.provider ≡ o → (p : Provider) → option_and_then (provider_at t) o ≡ Some p
      → request_refusal_at h p a ≡ None → Firm (made (Some d.number) (Some p))
  by_attached d d_here dev names None to_it p stands passes = absurd (let bad : ⊥ = cc in bad)
  by_attached d d_here dev names (Some q) to_it p stands passes =
      accepted d d_here dev names q to_it p stands passes

  -- by its consumer
  by_consumer : (o : Option ℕ) → h.consumer ≡ o → (p : Provider) → provider_of_handle w h ≡ Some p
      → request_refusal_at h p a ≡ None → Firm (made h.consumer (provider_of_handle w h))
  by_consumer None names p of_it passes =
      let none : provider_of_handle w h ≡ None =
      ap (λ o. option_and_then (provider_at t) (option_and_then (provider_of_consumer t) o)) names in
      absurd (let bad : ⊥ = cc in bad)
  by_consumer (Some n) names p of_it passes =
      let c = has_dev w firm h n here names in
      let found : consumer_at t c.consumer.number ≡ Some c.consumer =
      found_itself (λ (x : Consumer). x.number) t.next_consumer t.consumers c.consumer
      (sound-order w firm.graph.numbers).consumers c.here in
      let below : option_and_then (provider_at t) c.consumer.provider ≡ Some p =
      sym (ap (λ o. option_and_then (provider_at t) (option_and_then (λ (x : Consumer). x.provider) o)) found)
      ∙ sym (ap (λ o. option_and_then (provider_at t) (option_and_then (provider_of_consumer t) o)) c.names)
      ∙ of_it in
      subst (λ o. Firm (made h.consumer o)) (sym of_it)
      (subst (λ o. Firm (made o (Some p))) (sym c.names)
      (by_attached c.consumer c.here c.dev c.names c.consumer.provider refl p below passes))

  -- by its provider
  by_provider : (o : Option Provider) → provider_of_handle w h ≡ o
      → option_map_or (λ p. request_refusal_at h p a) o (Some ENXIO) ≡ None
      → Firm (made h.consumer (provider_of_handle w h))
  by_provider None of_it passes = absurd (let bad : ⊥ = cc in bad)
  by_provider (Some p) of_it passes = by_consumer h.consumer refl p of_it passes

  -- by whether it is dead
  by_dead : (b : Bool)
      → (if b then Some ENXIO else option_map_or (λ p. request_refusal_at h p a) (provider_of_handle w h)
      (Some ENXIO))
      ≡ None
      → Firm (made h.consumer (provider_of_handle w h))
  by_dead true passes = absurd (let bad : ⊥ = cc in bad)
  by_dead false passes = by_provider (provider_of_handle w h) refl passes

  -- by what refuses it
  by_refusal : (e : Option Errno) → request_refusal w (Some h) a ≡ e → Firm (request_answered w line (Some h) a e).0
  by_refusal (Some e) refuses = firm
  by_refusal None refuses = by_dead h.dead refuses

-- a request through a handle
handle-firm : (w : World) (line : ℕ) (h : Handle) (a : Asking) → Contains w.handles h → HasItsBytes a → Firm w
    → Firm (do_request w line (Some h) a).0
handle-firm w line h a here bytes firm =
    by_refusal w firm line h here a bytes (request_refusal w (Some h) a) refl

-- through the handle of a name, if any
named-by : (w : World) (line actor : ℕ) (name : List ℕ) (a : Asking) (o : Option Handle)
    → handle_of w actor name ≡ o
    → HasItsBytes a → Firm w → Firm (do_request w line o a).0
named-by w line actor name a None found bytes firm = firm
named-by w line actor name a (Some h) found bytes firm =
    handle-firm w line h a
    (find-Contains (λ (x : Handle). (x.actor == actor) && same_name x.name name) w.handles h found) bytes firm

-- so a request
named-firm : (w : World) (line actor : ℕ) (name : List ℕ) (a : Asking) → HasItsBytes a → Firm w
    → Firm (request w line actor name a).0
named-firm w line actor name a bytes firm = named-by w line actor name a (handle_of w actor name) refl bytes firm

-- the write of a record
recorded-firm : (w : World) (line actor : ℕ) (name : List ℕ) (sector_of : Provider → List ℕ)
    → FillsSectors sector_of
    → Firm w → Firm (write_record w line actor name sector_of).0
recorded-firm w line actor name sector_of fills firm =
    named-firm w line actor name (record_request w (handle_of w actor name) sector_of)
    (record_bytes w (handle_of w actor name) sector_of fills firm.sizes.sectors) firm

-- requests keep a firm mesh firm
pub requests_stay_firm : RequestsStayFirm
requests_stay_firm = record { handle = handle-firm; named = named-firm; recorded = recorded-firm }
