-- What a command does doesn't depend on the commands that are left.
use Rattle.std.specs.Prelude.{◌≡◌, ℕ, false, not, ◌&&◌, List, [], ◌∷◌, length, find, Option, Some, None, is_some, if◌then◌else◌}
use Rattle.std.specs.Option.{option_map_or}
use Rattle.std.proofs.Common.{refl, ap, ◌∙◌}
use Rattle.geo_base.specs.declared.errno.Errno.{Errno}
use Rattle.geo_base.specs.declared.errno.Errno.TheVariants.{EEXIST, EBUSY, ENXIO}
use Rattle.geo_base.specs.declared.kind.Kind.TheVariants as kinds
use Rattle.geo_base.specs.declared.request.BioCmd.TheVariants as cmds
use Rattle.geo_base.specs.declared.request.Counts.{Counts}
use Rattle.geo_model.specs.declared.command.Command.{Command}
use Rattle.geo_model.specs.declared.command.Command.TheVariants as commands
use Rattle.geo_model.specs.Acceptance.{joined_size}
use Rattle.geo_model.specs.Append.{Growing, append_joined, append_tested, append_tests, component_refusal, do_append, growing_concat}
use Rattle.geo_model.specs.Commands.{do_command, write_record, asking}
use Rattle.geo_model.specs.Events.{wither}
use Rattle.geo_model.specs.GeomCommands.{concat_config, destroy_tests, do_concat, do_destroy, do_insert, do_nop, do_pull, do_stripe, found_provider, found_providers, header_disk, insert_tests, is_geom_of_disk, is_invalid_stripe, joined_tests, named_geom, nop_config, nop_tests, sector_of, stand, stripe_config, wither_found, with_made}
use Rattle.geo_model.specs.HandleCommands.{answer, close_handle, do_open, do_request, done, open_answered, record_request, refused, request_answered, without_handle}
use Rattle.geo_model.specs.Listing.{listing}
use Rattle.geo_model.specs.Names.{concat_name, nop_name, stripe_name}
use Rattle.geo_model.specs.Opens.{open_refusal}
use Rattle.geo_model.specs.Records.{label_sector, concat_sector, stripe_sector}
use Rattle.geo_model.specs.Requests.{Asking, request_refusal}
use Rattle.geo_model.specs.Topology.{Provider, Geom, find_provider}
use Rattle.geo_model.specs.Words.{first_error}
use Rattle.geo_model.specs.World.{World, Config, Handle, HeaderDisk, granted_in, handle_of, is_active}
use Rattle.geo_model.specs.WorldEvents.{after_close, queued_of, with_queued}
use Rattle.geo_session.proofs.Others.{Lists, other, other_made, chosen_made}

module _ (f : Lists → Lists) where
  answers : (w : World) (line : ℕ) (e : Option Errno) (after : World)
      → answer (other f w) line e (other f after) ≡ other_made f (answer w line e after)
  answers w line None after = refl
  answers w line (Some e) after = refl

  opens : (w : World) (line actor : ℕ) (name : List ℕ) (p : Option ℕ) (grant : Counts) (e : Option Errno)
      → open_answered (other f w) line actor name p grant e
      ≡ other_made f (open_answered w line actor name p grant e)
  opens w line actor name None grant e = answers w line e w
  opens w line actor name (Some p) grant None = refl
  opens w line actor name (Some p) grant (Some e) = refl

  open_other : (w : World) (line actor : ℕ) (name prov : List ℕ) (grant : Counts)
      → do_open (other f w) line actor name prov grant ≡ other_made f (do_open w line actor name prov grant)
  open_other w line actor name prov grant =
      let p : Option ℕ = find_provider w.topology prov in
      let e : Option Errno = open_refusal (granted_in w) w.topology prov grant in
      ap (λ made. if is_some (handle_of w actor name) then refused (other f w) line EEXIST else made)
      (opens w line actor name p grant e)
      ∙ chosen_made f (is_some (handle_of w actor name)) (refused w line EEXIST)
      (open_answered w line actor name p grant e)

  close_other : (w : World) (line : ℕ) (h : Option Handle)
      → close_handle (other f w) line h ≡ other_made f (close_handle w line h)
  close_other w line None = refl
  close_other w line (Some h) =
      chosen_made f (option_map_or (is_active w) h.consumer false) (refused w line EBUSY)
      (done (after_close w (without_handle w h)) line)

  requests : (w : World) (line : ℕ) (h : Option Handle) (a : Asking) (e : Option Errno)
      → request_answered (other f w) line h a e ≡ other_made f (request_answered w line h a e)
  requests w line None a None = refl
  requests w line (Some h) a None = refl
  requests w line h a (Some e) = refl

  same_refusal : (w : World) (h : Option Handle) (a : Asking) → request_refusal (other f w) h a ≡ request_refusal w h a
  same_refusal w None a = refl
  same_refusal w (Some h) a = refl

  request_other : (w : World) (line : ℕ) (h : Option Handle) (a : Asking)
      → do_request (other f w) line h a ≡ other_made f (do_request w line h a)
  request_other w line h a =
      ap (λ e. request_answered (other f w) line h a e) (same_refusal w h a)
      ∙ requests w line h a (request_refusal w h a)

  insert_other : (w : World) (line : ℕ) (o : Option (ℕ × HeaderDisk))
      → do_insert (other f w) line o ≡ other_made f (do_insert w line o)
  insert_other w line None = refl
  insert_other w line (Some item) = answers w line (first_error (insert_tests w.topology item)) (stand w item)

  withers : (w : World) (line : ℕ) (o : Option (Geom Config)) (e : Errno)
      → wither_found (other f w) line o e ≡ other_made f (wither_found w line o e)
  withers w line None e = refl
  withers w line (Some g) e = refl

  pull_other : (w : World) (line : ℕ) (o : Option (ℕ × HeaderDisk))
      → do_pull (other f w) line o ≡ other_made f (do_pull w line o)
  pull_other w line None = refl
  pull_other w line (Some item) =
      withers w line (find (λ g. is_geom_of_disk item.0 g && not g.withering) w.topology.geoms) ENXIO

  nop_other : (w : World) (line : ℕ) (name : List ℕ) (offset size fail : ℕ) (o : Option Provider)
      → do_nop (other f w) line name offset size fail o ≡ other_made f (do_nop w line name offset size fail o)
  nop_other w line name offset size fail None = refl
  nop_other w line name offset size fail (Some p) =
      answers w line (first_error (nop_tests w.topology name offset size p))
      (with_made w kinds.Nop name (nop_config w.topology offset fail) (p ∷ []) name size p.sector)

  concat_other : (w : World) (line : ℕ) (name : List ℕ) (wanted : ℕ) (ps : List Provider)
      → do_concat (other f w) line name wanted ps ≡ other_made f (do_concat w line name wanted ps)
  concat_other w line name wanted ps =
      let config : Config = concat_config w.topology ps in
      answers w line (first_error (joined_tests w.topology (concat_name name) config wanted ps false))
      (with_made w kinds.Concat name config ps (concat_name name) (joined_size config) (sector_of ps))

  stripe_other : (w : World) (line : ℕ) (name : List ℕ) (stripe wanted : ℕ) (ps : List Provider)
      → do_stripe (other f w) line name stripe wanted ps ≡ other_made f (do_stripe w line name stripe wanted ps)
  stripe_other w line name stripe wanted ps =
      let config : Config = stripe_config w.topology stripe ps in
      answers w line
      (first_error (joined_tests w.topology (stripe_name name) config wanted ps (is_invalid_stripe stripe ps)))
      (with_made w kinds.Stripe name config ps (stripe_name name) (joined_size config) (sector_of ps))

  joins : (w : World) (line : ℕ) (x : Growing) (q : Provider) (e : Option Errno)
      → append_joined (other f w) line x q e ≡ other_made f (append_joined w line x q e)
  joins w line x q None = refl
  joins w line x q (Some e) = refl

  tests : (w : World) (line : ℕ) (x : Growing) (q : Provider) (e : Option Errno)
      → append_tested (other f w) line x q e ≡ other_made f (append_tested w line x q e)
  tests w line x q None = joins w line x q (component_refusal w x q)
  tests w line x q (Some e) = refl

  append_other : (w : World) (line : ℕ) (x : Option Growing) (q : Option Provider)
      → do_append (other f w) line x q ≡ other_made f (do_append w line x q)
  append_other w line (Some x) (Some q) = tests w line x q (first_error (append_tests w x q))
  append_other w line None None = refl
  append_other w line None (Some q) = refl
  append_other w line (Some x) None = refl

  destroy_other : (w : World) (line : ℕ) (o : Option (Geom Config))
      → do_destroy (other f w) line o ≡ other_made f (do_destroy w line o)
  destroy_other w line None = refl
  destroy_other w line (Some g) =
      answers w line (first_error (destroy_tests (granted_in w) w.topology g.number))
      (with_queued w (wither (queued_of w) g.number))

  record_other : (w : World) (line actor : ℕ) (name : List ℕ) (sector_of : Provider → List ℕ)
      → write_record (other f w) line actor name sector_of ≡ other_made f (write_record w line actor name sector_of)
  record_other w line actor name sector_of =
      request_other w line (handle_of w actor name) (record_request w (handle_of w actor name) sector_of)

  -- each command
  pub command_other : (w : World) (line actor : ℕ) (c : Command)
      → do_command (other f w) line actor c ≡ other_made f (do_command w line actor c)
  unfolding do_command listing
  command_other w line actor (commands.Open name prov grant) = open_other w line actor name prov grant
  command_other w line actor (commands.Close name) = close_other w line (handle_of w actor name)
  command_other w line actor (commands.Read name offset len) =
      request_other w line (handle_of w actor name) (asking cmds.Read offset len [])
  command_other w line actor (commands.Write name offset bytes) =
      request_other w line (handle_of w actor name) (asking cmds.Write offset (length bytes) bytes)
  command_other w line actor (commands.Delete name offset len) =
      request_other w line (handle_of w actor name) (asking cmds.Delete offset len [])
  command_other w line actor (commands.Flush name) =
      request_other w line (handle_of w actor name) (asking cmds.Flush 0 0 [])
  command_other w line actor commands.Sync = refl
  command_other w line actor commands.Settle = refl
  command_other w line actor (commands.Insert disk) = insert_other w line (header_disk w disk)
  command_other w line actor (commands.Pull disk) = pull_other w line (header_disk w disk)
  command_other w line actor (commands.Nop prov offset size fail) =
      nop_other w line (nop_name prov) offset size fail (found_provider w prov)
  command_other w line actor (commands.Concat name provs) =
      concat_other w line name (length provs) (found_providers w.topology provs)
  command_other w line actor (commands.Stripe name stripe provs) =
      stripe_other w line name stripe (length provs) (found_providers w.topology provs)
  command_other w line actor (commands.Append name prov) =
      append_other w line (growing_concat w.topology name) (found_provider w prov)
  command_other w line actor (commands.Destroy kind name) = destroy_other w line (named_geom w kind name)
  command_other w line actor (commands.Label name label) =
      record_other w line actor name (λ p. label_sector p.sector (record { name = label; size = None }))
  command_other w line actor (commands.Relabel name label) =
      record_other w line actor name (λ p. label_sector p.sector (record { name = label; size = Some p.size }))
  command_other w line actor (commands.MarkConcat name label id place count) =
      record_other w line actor name
      (λ p. concat_sector p.sector (record { name = label; id = id; place = place; count = count }))
  command_other w line actor (commands.MarkStripe name label id place count stripe) =
      record_other w line actor name
      (λ p. stripe_sector p.sector (record { name = label; id = id; place = place; count = count; stripe = stripe }))
  command_other w line actor commands.Mesh = refl
