-- What each command answers and does.
use Rattle.geo_base.specs.declared.request.BioCmd.{BioCmd}
use Rattle.std.specs.Prelude.{ℕ, List, [], length, Some, None}
use Rattle.geo_base.specs.declared.request.BioCmd.TheVariants as cmds
use Rattle.geo_model.specs.declared.command.Command.{Command}
use Rattle.geo_model.specs.declared.command.Command.TheVariants as commands
use Rattle.geo_model.specs.declared.step.Outcome.{Outcome}
use Rattle.geo_model.specs.declared.step.Outcome.TheVariants as outcomes
use Rattle.geo_model.specs.declared.step.Reply.TheVariants as replies
use Rattle.geo_model.specs.Names.{nop_name}
use Rattle.geo_model.specs.Topology.{Provider}
use Rattle.geo_model.specs.World.{World, handle_of}
use Rattle.geo_model.specs.Records.{label_sector, concat_sector, stripe_sector}
use Rattle.geo_model.specs.Requests.{Asking}
use Rattle.geo_model.specs.Listing.{listing}
use Rattle.geo_model.specs.HandleCommands.{done, do_open, close_handle, do_request, record_request}
use Rattle.geo_model.specs.GeomCommands.{header_disk, do_insert, do_pull, do_nop, found_providers, do_concat, do_stripe, do_destroy, found_provider, named_geom}
use Rattle.geo_model.specs.Append.{growing_concat, do_append}

-- the request of a command of one
abbrev pub asking : BioCmd → ℕ → ℕ → List ℕ → Asking
asking cmd offset len bytes = record { cmd = cmd; offset = offset; len = len; bytes = bytes }

-- a request through the actor's handle of the name
abbrev pub request : World → ℕ → ℕ → List ℕ → Asking → World × Outcome
request w line actor name a = do_request w line (handle_of w actor name) a

-- the same for a record at the last sector
abbrev pub write_record : World → ℕ → ℕ → List ℕ → (Provider → List ℕ) → World × Outcome
write_record w line actor name sector_of =
    request w line actor name (record_request w (handle_of w actor name) sector_of)

-- Each command

-- what the command of a line of an actor does
unfoldable pub do_command : World → ℕ → ℕ → Command → World × Outcome
do_command w line actor (commands.Open name prov grant) = do_open w line actor name prov grant
do_command w line actor (commands.Close name) = close_handle w line (handle_of w actor name)
do_command w line actor (commands.Read name offset len) = request w line actor name (asking cmds.Read offset len [])
do_command w line actor (commands.Write name offset bytes) =
    request w line actor name (asking cmds.Write offset (length bytes) bytes)
do_command w line actor (commands.Delete name offset len) = request w line actor name (asking cmds.Delete offset len [])
do_command w line actor (commands.Flush name) = request w line actor name (asking cmds.Flush 0 0 [])
do_command w line actor commands.Sync = done w line
do_command w line actor commands.Settle = done w line
do_command w line actor (commands.Insert disk) = do_insert w line (header_disk w disk)
do_command w line actor (commands.Pull disk) = do_pull w line (header_disk w disk)
do_command w line actor (commands.Nop prov offset size fail) =
    do_nop w line (nop_name prov) offset size fail (found_provider w prov)
do_command w line actor (commands.Concat name provs) =
    do_concat w line name (length provs) (found_providers w.topology provs)
do_command w line actor (commands.Stripe name stripe provs) =
    do_stripe w line name stripe (length provs) (found_providers w.topology provs)
do_command w line actor (commands.Append name prov) =
    do_append w line (growing_concat w.topology name) (found_provider w prov)
do_command w line actor (commands.Destroy kind name) = do_destroy w line (named_geom w kind name)
do_command w line actor (commands.Label name label) =
    write_record w line actor name (λ p. label_sector p.sector (record { name = label; size = None }))
do_command w line actor (commands.Relabel name label) =
    write_record w line actor name (λ p. label_sector p.sector (record { name = label; size = Some p.size }))
do_command w line actor (commands.MarkConcat name label id place count) =
    write_record w line actor name
    (λ p. concat_sector p.sector (record { name = label; id = id; place = place; count = count }))
do_command w line actor (commands.MarkStripe name label id place count stripe) =
    write_record w line actor name
    (λ p. stripe_sector p.sector (record { name = label; id = id; place = place; count = count; stripe = stripe }))
do_command w line actor commands.Mesh = (w, outcomes.Replied line (replies.Listing (listing w)))
