-- What is shown of each effect of commands holds of each command.
use Rattle.std.specs.Prelude.{◌≡◌, ℕ, ◌-◌, ◌==◌, ◌&&◌, Bool, true, false, not, List, [], length, find, Option, Some, None, All, Contains, is_some, option_and_then, if◌then◌else◌}
use Rattle.std.specs.Option.{option_map_or}
use Rattle.std.proofs.Common.{refl, ap}
use Rattle.std.proofs.lemmas.Bool.{both_ways}
use Rattle.std.proofs.lemmas.List.Elements.{All-contains}
use Rattle.geo_base.specs.Sectors.{IsSectorSize}
use Rattle.geo_base.specs.declared.errno.Errno.{Errno}
use Rattle.geo_base.specs.declared.errno.Errno.TheVariants.{ENOENT, EEXIST, EBADF, ENXIO, EBUSY}
use Rattle.geo_base.specs.declared.kind.Kind.{Kind}
use Rattle.geo_base.specs.declared.request.BioCmd.TheVariants as cmds
use Rattle.geo_base.specs.declared.request.Counts.{Counts}
use Rattle.geo_base.proofs.FindLists.{find-Contains}
use Rattle.geo_base.proofs.Options.{none_of}
use Rattle.geo_model.specs.declared.command.Command.{Command}
use Rattle.geo_model.specs.declared.command.Command.TheVariants as commands
use Rattle.geo_model.specs.declared.step.Outcome.{Outcome}
use Rattle.geo_model.specs.Words.{first_error, is_flush}
use Rattle.geo_model.specs.Names.{nop_name}
use Rattle.geo_model.specs.Topology.{Topology, Geom, Provider, provider_at, provider_of_consumer, find_provider}
use Rattle.geo_model.specs.World.{World, Config, Handle, HeaderDisk, granted_in, handle_of, is_active}
use Rattle.geo_model.specs.Records.{label_sector, concat_sector, stripe_sector}
use Rattle.geo_model.specs.Opens.{open_refusal, open_refusal_at}
use Rattle.geo_model.specs.Events.{QueuedTopology, wither}
use Rattle.geo_model.specs.WorldEvents.{queued_of, with_queued, after_close}
use Rattle.geo_model.specs.Requests.{Asking, provider_of_handle, request_refusal}
use Rattle.geo_model.specs.HandleCommands.{refused, done, answer, without_number, open_answered, do_open, without_handle, close_handle, request_answered, do_request, accept_request, record_request}
use Rattle.geo_model.specs.GeomCommands.{header_disk, is_geom_of_disk, insert_tests, stand_disk, stand, do_insert, wither_found, do_pull, build, nop_tests, do_nop, found_providers, joined_tests, is_invalid_stripe, do_concat, do_stripe, destroy_tests, do_destroy, found_provider, named_geom}
use Rattle.geo_model.specs.Append.{Growing, growing_concat, append_tests, component_refusal, appended, append_joined, append_tested, do_append}
use Rattle.geo_model.specs.Commands.{asking, request, write_record, do_command}
use Rattle.geo_model.specs.Plans.{IsCommand}
use Rattle.geo_model.specs.CommandEffects.{is_of_geoms, OfRefusals, HasItsBytes, FillsSectors, IsFormed, OfHandles, Making, with_making, nop_making, concat_making, stripe_making, OfGeoms}
use Rattle.geo_model.proofs.SectorLemmas.{label_fills, concat_fills, stripe_fills}

-- What is asked

-- no FLUSH, with the bytes of a WRITE
moving : (w : World) (c : Command) (a : Asking) → is_flush a.cmd ≡ false
    → (IsCommand c → All (λ p. IsSectorSize p.sector) w.topology.providers → HasItsBytes a) → IsFormed w c a
moving w c a moves bytes = record {
  bare = λ flushes. absurd (both_ways (is_flush a.cmd) moves flushes);
  bytes = bytes;
}

-- what is found by an option stands
and_then_stands : (t : Topology Config) (o : Option ℕ) (p : Provider) → option_and_then (provider_at t) o ≡ Some p
    → Contains t.providers p
and_then_stands t None p e = absurd (let bad : ⊥ = cc in bad)
and_then_stands t (Some n) p e = find-Contains (λ (x : Provider). x.number == n) t.providers p e

-- the provider of a handle stands
handle_stands : (w : World) (h : Option Handle) (p : Provider) → option_and_then (provider_of_handle w) h ≡ Some p
    → Contains w.topology.providers p
handle_stands w None p e = absurd (let bad : ⊥ = cc in bad)
handle_stands w (Some h) p e =
    and_then_stands w.topology (option_and_then (provider_of_consumer w.topology) h.consumer) p e

module _ (w : World) (h : Option Handle) (sector_of : Provider → List ℕ) where
  -- the record at the last sector of a provider
  abbrev record_at : Option Provider → Asking
  record_at o =
      option_map_or
      (λ p. record { cmd = cmds.Write; offset = p.size - p.sector; len = p.sector; bytes = sector_of p }) o
      (record { cmd = cmds.Write; offset = 0; len = 0; bytes = [] })

  -- it is no FLUSH
  moves_by : (o : Option Provider) → is_flush (record_at o).cmd ≡ false
  moves_by None = refl
  moves_by (Some p) = refl

  -- so is that of a handle's provider
  record_moves : is_flush (record_request w h sector_of).cmd ≡ false
  record_moves = moves_by (option_and_then (provider_of_handle w) h)

  module _ (fills : FillsSectors sector_of) (sectors : All (λ p. IsSectorSize p.sector) w.topology.providers) where
    -- it has its bytes, where the provider stands
    bytes_by : (o : Option Provider) → ((p : Provider) → o ≡ Some p → Contains w.topology.providers p)
        → HasItsBytes (record_at o)
    bytes_by None stands = λ writes. refl
    bytes_by (Some p) stands = λ writes.
        fills p (All-contains (λ (x : Provider). IsSectorSize x.sector) w.topology.providers p sectors (stands p refl))

    -- so has that of a handle's provider
    pub record_bytes : HasItsBytes (record_request w h sector_of)
    record_bytes = bytes_by (option_and_then (provider_of_handle w) h) (λ p e. handle_stands w h p e)

-- What is made where nothing refuses

-- a request is accepted
pub request_is : (w : World) (line : ℕ) (h : Handle) (a : Asking) → request_refusal w (Some h) a ≡ None
    → do_request w line (Some h) a ≡ accept_request w line h a
request_is w line h a passes = ap (λ e. request_answered w line (Some h) a e) passes

-- a handle is closed
pub close_is : (w : World) (line : ℕ) (h : Handle) → option_map_or (is_active w) h.consumer false ≡ false
    → close_handle w line (Some h) ≡ done (after_close w (without_handle w h)) line
close_is w line h idle =
    ap (λ b. if b then refused w line EBUSY else done (after_close w (without_handle w h)) line) idle

-- The walk

module _ (w : World) (line actor : ℕ) (P : Command → World × Outcome → Type 0) (r : OfRefusals w line P) where
  -- an answer, by what refuses it
  answered : (c : Command) (o : Option Errno) (after : World) → (o ≡ None → P c (done after line))
      → P c (answer w line o after)
  answered c None after does = does refl
  answered c (Some e) after does = r.refuses c e

  -- one of two answers
  either : (c : Command) (b : Bool) (m n : World × Outcome) → (b ≡ true → P c m) → (b ≡ false → P c n)
      → P c (if b then m else n)
  either c true m n one two = one refl
  either c false m n one two = two refl

  module _ (h : OfHandles w line actor P) where
    -- an open of a provider that is found, by what refuses it
    opened_at : (name prov : List ℕ) (grant : Counts) (p : ℕ) → handle_of w actor name ≡ None
        → find_provider w.topology prov ≡ Some p → (e : Option Errno)
        → open_refusal (granted_in w) w.topology prov grant ≡ e
        → P (commands.Open name prov grant) (open_answered w line actor name (Some p) grant e)
    opened_at name prov grant p free found None passes =
        h.opens name prov grant p (record { free = free; found = found; passes = passes })
    opened_at name prov grant p free found (Some e) passes = r.numbers (commands.Open name prov grant) e

    -- by what is found
    opened : (name prov : List ℕ) (grant : Counts) → handle_of w actor name ≡ None → (o : Option ℕ)
        → find_provider w.topology prov ≡ o
        → P (commands.Open name prov grant)
        (open_answered w line actor name o grant (open_refusal_at (granted_in w) w.topology o grant))
    opened name prov grant free None found = r.refuses (commands.Open name prov grant) ENOENT
    opened name prov grant free (Some p) found =
        opened_at name prov grant p free found (open_refusal_at (granted_in w) w.topology (Some p) grant)
        (ap (λ o. open_refusal_at (granted_in w) w.topology o grant) found)

    -- an open, by whether its name is one of a handle
    open_by : (name prov : List ℕ) (grant : Counts)
        → P (commands.Open name prov grant) (do_open w line actor name prov grant)
    open_by name prov grant =
        either (commands.Open name prov grant) (is_some (handle_of w actor name)) (refused w line EEXIST)
        (open_answered w line actor name (find_provider w.topology prov) grant
        (open_refusal (granted_in w) w.topology prov grant))
        (λ used. r.refuses (commands.Open name prov grant) EEXIST)
        (λ free. opened name prov grant (none_of (handle_of w actor name) free) (find_provider w.topology prov) refl)

    -- a close, by the handle
    closed : (name : List ℕ) (o : Option Handle) → handle_of w actor name ≡ o
        → P (commands.Close name) (close_handle w line o)
    closed name None found = r.refuses (commands.Close name) EBADF
    closed name (Some x) found =
        either (commands.Close name) (option_map_or (is_active w) x.consumer false) (refused w line EBUSY)
        (done (after_close w (without_handle w x)) line) (λ busy. r.refuses (commands.Close name) EBUSY)
        (λ idle. h.closes name x (record { found = found; idle = idle }))

    -- a request, by what refuses it
    asked : (c : Command) (name : List ℕ) (a : Asking) → IsFormed w c a → (o : Option Handle)
        → handle_of w actor name ≡ o → (e : Option Errno) → request_refusal w o a ≡ e
        → P c (request_answered w line o a e)
    asked c name a formed o found (Some e) refuses = r.refuses c e
    asked c name a formed None found None passes = r.refuses c EBADF
    asked c name a formed (Some x) found None passes =
        h.accepts c x a (record { name = name; found = found; passes = passes; formed = formed })

    -- through the actor's handle of a name
    requested : (c : Command) (name : List ℕ) (a : Asking) → IsFormed w c a → P c (request w line actor name a)
    requested c name a formed =
        asked c name a formed (handle_of w actor name) refl (request_refusal w (handle_of w actor name) a) refl

    -- the write of a record
    recorded : (c : Command) (name : List ℕ) (sector_of : Provider → List ℕ) → (IsCommand c → FillsSectors sector_of)
        → P c (write_record w line actor name sector_of)
    recorded c name sector_of fills =
        requested c name (record_request w (handle_of w actor name) sector_of)
        (moving w c (record_request w (handle_of w actor name) sector_of)
        (record_moves w (handle_of w actor name) sector_of)
        (λ form sectors. record_bytes w (handle_of w actor name) sector_of (fills form) sectors))

    -- each command of a handle, and each that only answers
    pub handles_by : (c : Command) → is_of_geoms c ≡ false → P c (do_command w line actor c)
    unfolding do_command
    handles_by (commands.Open name prov grant) of = open_by name prov grant
    handles_by (commands.Close name) of = closed name (handle_of w actor name) refl
    handles_by (commands.Read name offset len) of =
        requested (commands.Read name offset len) name (asking cmds.Read offset len [])
        (moving w (commands.Read name offset len) (asking cmds.Read offset len []) refl
        (λ form sectors writes. absurd (let bad : ⊥ = cc in bad)))
    handles_by (commands.Write name offset bytes) of =
        requested (commands.Write name offset bytes) name (asking cmds.Write offset (length bytes) bytes)
        (moving w (commands.Write name offset bytes) (asking cmds.Write offset (length bytes) bytes) refl
        (λ form sectors writes. refl))
    handles_by (commands.Delete name offset len) of =
        requested (commands.Delete name offset len) name (asking cmds.Delete offset len [])
        (moving w (commands.Delete name offset len) (asking cmds.Delete offset len []) refl
        (λ form sectors writes. absurd (let bad : ⊥ = cc in bad)))
    handles_by (commands.Flush name) of =
        requested (commands.Flush name) name (asking cmds.Flush 0 0 [])
        (record { bare = λ flushes. (refl, refl); bytes = λ form sectors writes. refl })
    handles_by commands.Sync of = h.waits commands.Sync tt
    handles_by commands.Settle of = h.waits commands.Settle tt
    handles_by (commands.Label name label) of =
        recorded (commands.Label name label) name
        (λ p. label_sector p.sector (record { name = label; size = None }))
        (λ form p size. label_fills p.sector (record { name = label; size = None }) size form.1)
    handles_by (commands.Relabel name label) of =
        recorded (commands.Relabel name label) name
        (λ p. label_sector p.sector (record { name = label; size = Some p.size }))
        (λ form p size. label_fills p.sector (record { name = label; size = Some p.size }) size form.1)
    handles_by (commands.MarkConcat name label id place count) of =
        recorded (commands.MarkConcat name label id place count) name
        (λ p. concat_sector p.sector (record { name = label; id = id; place = place; count = count }))
        (λ form p size. concat_fills p.sector (record { name = label; id = id; place = place; count = count }) size
        form.1)
    handles_by (commands.MarkStripe name label id place count stripe) of =
        recorded (commands.MarkStripe name label id place count stripe) name
        (λ p. stripe_sector p.sector (record { name = label; id = id; place = place; count = count; stripe = stripe }))
        (λ form p size. stripe_fills p.sector
        (record { name = label; id = id; place = place; count = count; stripe = stripe }) size form.1)
    handles_by commands.Mesh of = h.lists
    handles_by _ of = absurd (let bad : ⊥ = cc in bad)

  module _ (g : OfGeoms w line P) where
    -- an insert, by the disk
    inserted : (disk : List ℕ) (o : Option (ℕ × HeaderDisk)) → header_disk w disk ≡ o
        → P (commands.Insert disk) (do_insert w line o)
    inserted disk None found = r.refuses (commands.Insert disk) ENOENT
    inserted disk (Some item) found =
        answered (commands.Insert disk) (first_error (insert_tests w.topology item)) (stand w item)
        (λ none. g.inserts disk item (record { found = found; passes = none }))

    -- a pull of a disk, by its geom
    pulled_from : (disk : List ℕ) (item : ℕ × HeaderDisk) → header_disk w disk ≡ Some item → (o : Option (Geom Config))
        → find (λ (x : Geom Config). is_geom_of_disk item.0 x && not x.withering) w.topology.geoms ≡ o
        → P (commands.Pull disk) (wither_found w line o ENXIO)
    pulled_from disk item found None stands = r.refuses (commands.Pull disk) ENXIO
    pulled_from disk item found (Some x) stands = g.withers (commands.Pull disk) x (item, found, stands)

    -- a pull, by the disk
    pulled : (disk : List ℕ) (o : Option (ℕ × HeaderDisk)) → header_disk w disk ≡ o
        → P (commands.Pull disk) (do_pull w line o)
    pulled disk None found = r.refuses (commands.Pull disk) ENOENT
    pulled disk (Some item) found =
        pulled_from disk item found
        (find (λ (x : Geom Config). is_geom_of_disk item.0 x && not x.withering) w.topology.geoms) refl

    -- a nop, by the provider
    nopped : (prov : List ℕ) (offset size fail : ℕ) (o : Option Provider) → found_provider w prov ≡ o
        → P (commands.Nop prov offset size fail) (do_nop w line (nop_name prov) offset size fail o)
    nopped prov offset size fail None found = r.refuses (commands.Nop prov offset size fail) ENOENT
    nopped prov offset size fail (Some p) found =
        let m : Making = nop_making w.topology (nop_name prov) offset size fail p in
        answered (commands.Nop prov offset size fail)
        (first_error (nop_tests w.topology (nop_name prov) offset size p)) (with_making w m)
        (λ none. g.makes (commands.Nop prov offset size fail) m (p, found, none, refl))

    -- a concat
    concatted : (name : List ℕ) (provs : List (List ℕ))
        → P (commands.Concat name provs)
        (do_concat w line name (length provs) (found_providers w.topology provs))
    concatted name provs =
        let m : Making = concat_making w.topology name (found_providers w.topology provs) in
        answered (commands.Concat name provs)
        (first_error (joined_tests w.topology m.name m.config (length provs) m.providers false)) (with_making w m)
        (λ none. g.makes (commands.Concat name provs) m (none, refl))

    -- a stripe
    striped : (name : List ℕ) (stripe : ℕ) (provs : List (List ℕ))
        → P (commands.Stripe name stripe provs)
        (do_stripe w line name stripe (length provs) (found_providers w.topology provs))
    striped name stripe provs =
        let m : Making = stripe_making w.topology name stripe (found_providers w.topology provs) in
        answered (commands.Stripe name stripe provs)
        (first_error (joined_tests w.topology m.name m.config (length provs) m.providers
        (is_invalid_stripe stripe m.providers))) (with_making w m)
        (λ none. g.makes (commands.Stripe name stripe provs) m (none, refl))

    -- a destroy, by the geom
    destroyed : (kind : Kind) (name : List ℕ) (o : Option (Geom Config)) → named_geom w kind name ≡ o
        → P (commands.Destroy kind name) (do_destroy w line o)
    destroyed kind name None found = r.refuses (commands.Destroy kind name) ENOENT
    destroyed kind name (Some x) found =
        answered (commands.Destroy kind name) (first_error (destroy_tests (granted_in w) w.topology x.number))
        (with_queued w (wither (queued_of w) x.number))
        (λ none. g.withers (commands.Destroy kind name) x (found, none))

    module _ (name prov : List ℕ) (x : Growing) (q : Provider) (growing : growing_concat w.topology name ≡ Some x)
        (found : found_provider w prov ≡ Some q) where
      -- an append, by what refuses its new consumer
      joined : first_error (append_tests w x q) ≡ None → (e : Option Errno) → component_refusal w x q ≡ e
          → P (commands.Append name prov) (append_joined w line x q e)
      joined passes None joins =
          g.grows name prov x q (record { growing = growing; found = found; passes = passes; joins = joins })
      joined passes (Some e) joins = r.numbers (commands.Append name prov) e

      -- by what refuses it before
      tested : (e : Option Errno) → first_error (append_tests w x q) ≡ e
          → P (commands.Append name prov) (append_tested w line x q e)
      tested None passes = joined passes (component_refusal w x q) refl
      tested (Some e) passes = r.refuses (commands.Append name prov) e

    -- by what is found
    grown : (name prov : List ℕ) (o : Option Growing) → growing_concat w.topology name ≡ o → (s : Option Provider)
        → found_provider w prov ≡ s → P (commands.Append name prov) (do_append w line o s)
    grown name prov (Some x) growing (Some q) found =
        tested name prov x q growing found (first_error (append_tests w x q)) refl
    grown name prov (Some x) growing None found = r.refuses (commands.Append name prov) ENOENT
    grown name prov None growing s found = r.refuses (commands.Append name prov) ENOENT

    -- each command of geoms
    pub geoms_by : (c : Command) → is_of_geoms c ≡ true → P c (do_command w line actor c)
    unfolding do_command
    geoms_by (commands.Insert disk) of = inserted disk (header_disk w disk) refl
    geoms_by (commands.Pull disk) of = pulled disk (header_disk w disk) refl
    geoms_by (commands.Nop prov offset size fail) of =
        nopped prov offset size fail (found_provider w prov) refl
    geoms_by (commands.Concat name provs) of = concatted name provs
    geoms_by (commands.Stripe name stripe provs) of = striped name stripe provs
    geoms_by (commands.Append name prov) of =
        grown name prov (growing_concat w.topology name) refl (found_provider w prov) refl
    geoms_by (commands.Destroy kind name) of = destroyed kind name (named_geom w kind name) refl
    geoms_by _ of = absurd (let bad : ⊥ = cc in bad)

  -- each command
  pub command_by : OfHandles w line actor P → OfGeoms w line P → (c : Command) → P c (do_command w line actor c)
  command_by h g c = by (is_of_geoms c) refl
    where
      -- by whether it is one of geoms
      by : (b : Bool) → is_of_geoms c ≡ b → P c (do_command w line actor c)
      by true of = geoms_by g c of
      by false of = handles_by h c of

-- each command, where the fact reads neither the graph nor the queue of events
pub any_graph_by : (w : World) (line actor : ℕ) (P : Command → World × Outcome → Type 0)
    → ((c : Command) (q : QueuedTopology Config) (e : Errno) → P c (refused (with_queued w q) line e))
    → ((c : Command) (q : QueuedTopology Config) → P c (done (with_queued w q) line))
    → OfHandles w line actor P → (c : Command) → P c (do_command w line actor c)
any_graph_by w line actor P refuses does h =
    command_by w line actor P (record {
      refuses = λ c e. refuses c (queued_of w) e;
      numbers = λ c e. refuses c (queued_of (without_number w)) e;
    }) h (record {
      inserts = λ disk item is. does (commands.Insert disk) (stand_disk (queued_of w) item);
      makes = λ c m is. does c (build (queued_of w) m.kind m.geom_name m.config m.providers m.name m.size m.sector);
      withers = λ c g is. does c (wither (queued_of w) g.number);
      grows = λ name prov x q is. does (commands.Append name prov) (queued_of (appended w x q));
    })
