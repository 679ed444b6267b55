-- The headline doesn't rest on this file: laws of all commands are shown by it.
-- What a command can do to a world, by effect and not by command, for a fact P of a command and what it makes.
use Rattle.std.specs.Prelude.{◌≡◌, ℕ, ◌&&◌, Bool, true, false, not, List, [], ◌∷◌, length, find, All, IsTrue, Some, None}
use Rattle.std.specs.Option.{option_map_or}
use Rattle.geo_base.specs.Sectors.{IsSectorSize}
use Rattle.geo_base.specs.declared.errno.Errno.{Errno}
use Rattle.geo_base.specs.declared.kind.Kind.{Kind}
use Rattle.geo_base.specs.declared.kind.Kind.TheVariants as kinds
use Rattle.geo_base.specs.declared.request.Counts.{Counts}
use Rattle.geo_model.specs.declared.command.Command.{Command}
use Rattle.geo_model.specs.declared.command.Command.TheVariants as commands
use Rattle.geo_model.specs.declared.step.Outcome.{Outcome}
use Rattle.geo_model.specs.declared.step.Outcome.TheVariants as outcomes
use Rattle.geo_model.specs.declared.step.Reply.TheVariants as replies
use Rattle.geo_model.specs.Words.{first_error, is_flush, is_write}
use Rattle.geo_model.specs.Names.{nop_name, concat_name, stripe_name}
use Rattle.geo_model.specs.Topology.{Topology, Geom, Provider, find_provider}
use Rattle.geo_model.specs.World.{World, Config, Handle, HeaderDisk, granted_in, handle_of, is_active}
use Rattle.geo_model.specs.Opens.{open_refusal}
use Rattle.geo_model.specs.Events.{wither}
use Rattle.geo_model.specs.WorldEvents.{queued_of, with_queued, after_open, after_close}
use Rattle.geo_model.specs.Acceptance.{joined_size}
use Rattle.geo_model.specs.Requests.{Asking, request_refusal}
use Rattle.geo_model.specs.Listing.{listing}
use Rattle.geo_model.specs.HandleCommands.{refused, done, with_handle, without_number, without_handle, accept_request}
use Rattle.geo_model.specs.GeomCommands.{header_disk, is_geom_of_disk, stand, insert_tests, with_made, nop_tests, nop_config, found_providers, sector_of, joined_tests, concat_config, is_invalid_stripe, stripe_config, destroy_tests, found_provider, named_geom}
use Rattle.geo_model.specs.Append.{Growing, growing_concat, append_tests, component_refusal, appended}
use Rattle.geo_model.specs.Plans.{IsCommand}
use Rattle.geo_model.specs.FixedOrder.{IsWait}

-- whether a command makes a geom, ends one or lets one grow; the others are of a handle, or only answer
abbrev pub is_of_geoms : Command → Bool
is_of_geoms (commands.Insert disk) = true
is_of_geoms (commands.Pull disk) = true
is_of_geoms (commands.Nop prov offset size fail) = true
is_of_geoms (commands.Concat name provs) = true
is_of_geoms (commands.Stripe name stripe provs) = true
is_of_geoms (commands.Append name prov) = true
is_of_geoms (commands.Destroy kind name) = true
is_of_geoms _ = false

-- Commands that are refused

-- nothing changes, or one consumer number is used up
pub record OfRefusals (w : World) (line : ℕ) (P : Command → World × Outcome → Type 0) : Type 0 where
  pub refuses : (c : Command) (e : Errno) → P c (refused w line e)
  pub numbers : (c : Command) (e : Errno) → P c (refused (without_number w) line e)

-- Commands of handles

-- an open: its name is free, its provider is found, and nothing refuses it
pub record IsOpened (w : World) (actor : ℕ) (name prov : List ℕ) (grant : Counts) (p : ℕ) : Type 0 where
  pub free : handle_of w actor name ≡ None
  pub found : find_provider w.topology prov ≡ Some p
  pub passes : open_refusal (granted_in w) w.topology prov grant ≡ None

-- a close: its handle is found, and no request of it is out
pub record IsClosed (w : World) (actor : ℕ) (name : List ℕ) (h : Handle) : Type 0 where
  pub found : handle_of w actor name ≡ Some h
  pub idle : option_map_or (is_active w) h.consumer false ≡ false

-- a WRITE has as many bytes as it says
abbrev pub HasItsBytes : Asking → Type 0
HasItsBytes a = IsTrue (is_write a.cmd) → length a.bytes ≡ a.len

-- the bytes for a provider fill one sector of it
abbrev pub FillsSectors : (Provider → List ℕ) → Type 0
FillsSectors sector_of = (p : Provider) → IsSectorSize p.sector → length (sector_of p) ≡ p.sector

-- what a command asks for: a FLUSH has no range, and a WRITE its bytes, if the command has its form and sectors theirs
pub record IsFormed (w : World) (c : Command) (a : Asking) : Type 0 where
  pub bare : is_flush a.cmd ≡ true → (a.offset ≡ 0) × (a.len ≡ 0)
  pub bytes : IsCommand c → All (λ p. IsSectorSize p.sector) w.topology.providers → HasItsBytes a

-- a request: its handle is found, and nothing refuses what it asks for
pub record IsAsked (w : World) (actor : ℕ) (c : Command) (h : Handle) (a : Asking) : Type 0 where
  pub name : List ℕ
  pub found : handle_of w actor name ≡ Some h
  pub passes : request_refusal w (Some h) a ≡ None
  pub formed : IsFormed w c a

-- a sync or a settle is done, the mesh is listed, a handle is opened or closed, a request is accepted
pub record OfHandles (w : World) (line actor : ℕ) (P : Command → World × Outcome → Type 0) : Type 0 where
  pub waits : (c : Command) → IsWait c → P c (done w line)
  pub lists : P commands.Mesh (w, outcomes.Replied line (replies.Listing (listing w)))
  pub opens : (name prov : List ℕ) (grant : Counts) (p : ℕ) → IsOpened w actor name prov grant p
      → P (commands.Open name prov grant) (done (after_open w (with_handle w actor name p grant)) line)
  pub closes : (name : List ℕ) (h : Handle) → IsClosed w actor name h
      → P (commands.Close name) (done (after_close w (without_handle w h)) line)
  pub accepts : (c : Command) (h : Handle) (a : Asking) → IsAsked w actor c h a → P c (accept_request w line h a)

-- Commands of geoms

-- an insert: its disk is found, and nothing refuses it
pub record IsInserted (w : World) (disk : List ℕ) (item : ℕ × HeaderDisk) : Type 0 where
  pub found : header_disk w disk ≡ Some item
  pub passes : first_error (insert_tests w.topology item) ≡ None

-- a geom that is made over providers, and the name and the sizes of its own provider
pub record Making : Type 0 where
  pub kind : Kind
  pub geom_name : List ℕ
  pub config : Config
  pub providers : List Provider
  pub name : List ℕ
  pub size : ℕ
  pub sector : ℕ

-- the world with it
abbrev pub with_making : World → Making → World
with_making w m = with_made w m.kind m.geom_name m.config m.providers m.name m.size m.sector

-- a nop over a provider, and a concat and a stripe over providers
abbrev pub nop_making : Topology Config → List ℕ → ℕ → ℕ → ℕ → Provider → Making
nop_making t name offset size fail p = record {
  kind = kinds.Nop;
  geom_name = name;
  config = nop_config t offset fail;
  providers = p ∷ [];
  name = name;
  size = size;
  sector = p.sector;
}

abbrev pub concat_making : Topology Config → List ℕ → List Provider → Making
concat_making t name ps = record {
  kind = kinds.Concat;
  geom_name = name;
  config = concat_config t ps;
  providers = ps;
  name = concat_name name;
  size = joined_size (concat_config t ps);
  sector = sector_of ps;
}

abbrev pub stripe_making : Topology Config → List ℕ → ℕ → List Provider → Making
stripe_making t name stripe ps = record {
  kind = kinds.Stripe;
  geom_name = name;
  config = stripe_config t stripe ps;
  providers = ps;
  name = stripe_name name;
  size = joined_size (stripe_config t stripe ps);
  sector = sector_of ps;
}

-- the command makes the geom: nothing refuses it over the providers that are found
abbrev pub IsMade : World → Command → Making → Type 0
IsMade w (commands.Nop prov offset size fail) m =
    (p : Provider) × (found_provider w prov ≡ Some p)
    × (first_error (nop_tests w.topology (nop_name prov) offset size p) ≡ None)
    × (m ≡ nop_making w.topology (nop_name prov) offset size fail p)
IsMade w (commands.Concat name provs) m =
    (first_error (joined_tests w.topology m.name m.config (length provs) m.providers false) ≡ None)
    × (m ≡ concat_making w.topology name (found_providers w.topology provs))
IsMade w (commands.Stripe name stripe provs) m =
    (first_error (joined_tests w.topology m.name m.config (length provs) m.providers
    (is_invalid_stripe stripe m.providers)) ≡ None)
    × (m ≡ stripe_making w.topology name stripe (found_providers w.topology provs))
IsMade w _ m = ⊥

-- the command ends the geom: it is found, and nothing refuses that it withers
abbrev pub IsEnded : World → Command → Geom Config → Type 0
IsEnded w (commands.Pull disk) g =
    (item : ℕ × HeaderDisk) × (header_disk w disk ≡ Some item)
    × (find (λ (x : Geom Config). is_geom_of_disk item.0 x && not x.withering) w.topology.geoms ≡ Some g)
IsEnded w (commands.Destroy kind name) g =
    (named_geom w kind name ≡ Some g) × (first_error (destroy_tests (granted_in w) w.topology g.number) ≡ None)
IsEnded w _ g = ⊥

-- an append: its concat and its provider are found, and nothing refuses it
pub record IsGrown (w : World) (name prov : List ℕ) (x : Growing) (q : Provider) : Type 0 where
  pub growing : growing_concat w.topology name ≡ Some x
  pub found : found_provider w prov ≡ Some q
  pub passes : first_error (append_tests w x q) ≡ None
  pub joins : component_refusal w x q ≡ None

-- a disk stands, a geom is made, a geom withers, a concat grows
pub record OfGeoms (w : World) (line : ℕ) (P : Command → World × Outcome → Type 0) : Type 0 where
  pub inserts : (disk : List ℕ) (item : ℕ × HeaderDisk) → IsInserted w disk item
      → P (commands.Insert disk) (done (stand w item) line)
  pub makes : (c : Command) (m : Making) → IsMade w c m → P c (done (with_making w m) line)
  pub withers : (c : Command) (g : Geom Config) → IsEnded w c g
      → P c (done (with_queued w (wither (queued_of w) g.number)) line)
  pub grows : (name prov : List ℕ) (x : Growing) (q : Provider) → IsGrown w name prov x q
      → P (commands.Append name prov) (done (appended w x q) line)
