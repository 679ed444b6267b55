-- Each command of geoms, as it is done.
use Rattle.std.specs.Prelude.{◌≡◌, ℕ, true}
use Rattle.geo_model.specs.declared.command.Command.{Command}
use Rattle.geo_model.specs.declared.command.Command.TheVariants as commands
use Rattle.geo_model.specs.Names.{nop_name}
use Rattle.geo_model.specs.World.{World}
use Rattle.geo_model.specs.GeomCommands.{header_disk}
use Rattle.geo_model.specs.Commands.{do_command}
use Rattle.geo_model.specs.CommandEffects.{is_of_geoms}
use Rattle.geo_model.specs.Plans.{IsCommand}
use Rattle.geo_model.specs.Fitting.{Firm}
use Rattle.geo_laws_making.proofs.Over.{false_true}
use Rattle.geo_laws_making.proofs.Pulled.{pulls_stay, destroys_stay}
use Rattle.geo_laws_making.proofs.Inserted.{inserts_stay}
use Rattle.geo_laws_making.proofs.Nopped.{nops_stay}
use Rattle.geo_laws_making.proofs.Joined.{concats_stay, stripes_stay}
use Rattle.geo_laws_making.specs.GeomCommandLaws.{GeomCommandsStayFirm}
use Rattle.geo_laws_making.proofs.Appended.{appends_stay}

-- each of them keeps a firm world firm
geom_command-firm : (w : World) (line actor : ℕ) (c : Command) → is_of_geoms c ≡ true → IsCommand c → Firm w
    → Firm (do_command w line actor c).0
unfolding do_command
geom_command-firm w line actor (commands.Insert disk) of form firm = inserts_stay.insert w line disk firm
geom_command-firm w line actor (commands.Pull disk) of form firm = pulls_stay.pull w line (header_disk w disk) firm
geom_command-firm w line actor (commands.Nop prov offset size fail) of form firm =
    nops_stay.nop w line (nop_name prov) offset size fail prov firm
geom_command-firm w line actor (commands.Concat name provs) of form firm =
    concats_stay.concat w line name provs form.1.not_many firm
geom_command-firm w line actor (commands.Stripe name stripe provs) of form firm =
    stripes_stay.stripe w line name stripe provs form.1.some form.2.not_many firm
geom_command-firm w line actor (commands.Append name prov) of form firm = appends_stay.append w line name prov firm
geom_command-firm w line actor (commands.Destroy kind name) of form firm =
    destroys_stay.destroy w line kind name form.0 firm
geom_command-firm w line actor _ of form firm = false_true of

-- so say all commands of geoms
pub geom_commands_stay : GeomCommandsStayFirm
geom_commands_stay = record { done = geom_command-firm }
