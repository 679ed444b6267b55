-- No command changes a bio, and one that accepts a request adds it.
use Rattle.std.specs.Prelude.{◌≡◌, ℕ, unwrap_or}
use Rattle.std.specs.Option.{option_map_or}
use Rattle.std.proofs.Common.{refl, ap, inl, inr}
use Rattle.geo_model.specs.declared.command.Command.{Command}
use Rattle.geo_model.specs.declared.step.Outcome.{Outcome}
use Rattle.geo_model.specs.declared.step.Outcome.TheVariants as outcomes
use Rattle.geo_model.specs.declared.step.Owner.TheVariants as owners
use Rattle.geo_model.specs.declared.step.Reply.{Reply}
use Rattle.geo_model.specs.Topology.{Provider}
use Rattle.geo_model.specs.World.{World, Handle, Bio}
use Rattle.geo_model.specs.Bios.{new_bio}
use Rattle.geo_model.specs.Requests.{Asking, provider_of_handle}
use Rattle.geo_model.specs.HandleCommands.{accept_request, with_handle, without_handle}
use Rattle.geo_model.specs.WorldEvents.{with_queued, after_open, after_close}
use Rattle.geo_model.specs.Commands.{do_command}
use Rattle.geo_model.proofs.CommandWalk.{any_graph_by}
use Rattle.geo_laws_requests.specs.Arrivals.{BiosStay, AcceptsNone, AcceptsIt, StayOrArrive}

-- what a command made, by the world before it
abbrev pub Made : World → World × Outcome → Type 0
Made w made = StayOrArrive w made.0 made.1

-- a reply accepts nothing
pub reply_accepts_none : (line : ℕ) (reply : Reply) → AcceptsNone (outcomes.Replied line reply)
reply_accepts_none line reply l b e = absurd (let bad : ⊥ = cc in bad)

-- a reply, where the bios are what they were
pub replied_stays : (w v : World) (line : ℕ) (reply : Reply) → BiosStay w v → Made w (v, outcomes.Replied line reply)
replied_stays w v line reply stay = inl (stay, reply_accepts_none line reply)

-- the bios of the world itself
pub same_bios : (w : World) → BiosStay w w
same_bios w = record { bios = refl; next = refl }

-- a request that is accepted arrives
accepted : (w : World) (line : ℕ) (h : Handle) (a : Asking) → Made w (accept_request w line h a)
accepted w line h a =
    inr (made, (record { bios = refl; next = refl; number = refl; phase = refl; root = refl }, of_line))
  where
    made : Bio
    made = new_bio w.next_bio a.cmd a.offset a.len a.bytes (unwrap_or h.consumer 0)
        (option_map_or (λ (p : Provider). p.number) (provider_of_handle w h) 0) (owners.Line h.number line)

    of_line : AcceptsIt (outcomes.Accepted line w.next_bio) made
    of_line l b e =
        let number : b ≡ w.next_bio = cc in
        let same : line ≡ l = cc in
        (number, (h.number, ap (λ n. owners.Line h.number n) same))

-- each command
pub command_made : (w : World) (line actor : ℕ) (c : Command) → Made w (do_command w line actor c)
command_made w line actor =
    any_graph_by w line actor (λ c made. Made w made)
    (λ c q e. replied_stays w (with_queued w q) line _ (record { bios = refl; next = refl }))
    (λ c q. replied_stays w (with_queued w q) line _ (record { bios = refl; next = refl }))
    (record {
      waits = λ c is. replied_stays w w line _ (same_bios w);
      lists = replied_stays w w line _ (same_bios w);
      opens = λ name prov grant p is.
          replied_stays w (after_open w (with_handle w actor name p grant)) line _
          (record { bios = refl; next = refl });
      closes = λ name h is.
          replied_stays w (after_close w (without_handle w h)) line _ (record { bios = refl; next = refl });
      accepts = λ c h a is. accepted w line h a;
    })
