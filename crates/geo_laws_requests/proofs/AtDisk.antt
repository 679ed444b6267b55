-- What a Take asks its disk for covers the bio.
use Rattle.std.specs.Prelude.{◌≡◌, ℕ, zero, suc, ◌+◌, ◌*◌, ◌/◌, ◌%◌, ◌<◌, ◌==◌, false, not, List, [], ◌∷◌, length, map, flat_map, find, Option, Some, None, IsTrue, IsSomeAnd, All, option_and_then}
use Rattle.std.specs.List.{range_with_len}
use Rattle.std.specs.Option.{option_map_or}
use Rattle.std.proofs.Common.{inl, inr, refl, sym, ◌∙◌, ap, append-nil, subst, arith}
use Rattle.std.proofs.Math.Nat.{add-mul, mod-add-div, mul_comm}
use Rattle.std.proofs.lemmas.List.Elements.{All-contains, All-from_recursion}
use Rattle.std.proofs.lemmas.Nat.{div-mul-add}
use Rattle.std.proofs.lemmas.Bool.{not-true}
use Rattle.geo_base.specs.Sectors.{IsSectorSize}
use Rattle.geo_base.specs.declared.request.BioCmd.{BioCmd}
use Rattle.geo_base.specs.declared.request.BioCmd.TheVariants as cmds
use Rattle.geo_model.specs.declared.step.DeviceResult.{DeviceResult}
use Rattle.geo_model.specs.Words.{◌>>=◌, is_flush, same_cmd}
use Rattle.geo_model.specs.Topology.{Topology, Geom, Provider, provider_at, geom_at, provider_with_geom}
use Rattle.geo_model.specs.World.{World, Config, Disk, Bio, granted_in}
use Rattle.geo_model.specs.Place.{DiskSector, disk_of, flat, flat_step, flat_within, ends, ends_step, ends_within}
use Rattle.geo_model.specs.Bios.{disk_at, disk_of_bio, request_of_bio, sector_of_bio}
use Rattle.geo_model.specs.SoundBios.{IsBioInOrder, IsRangeInside}
use Rattle.geo_model.specs.Results.{Leaf, sector_offsets, sectors_of_request}
use Rattle.geo_laws_graph.proofs.Classes.{is_disk}
use Rattle.geo_laws_graph.proofs.Members.{find-Contains}
use Rattle.geo_laws_maps.specs.Covers.{CoversBy}
use Rattle.geo_laws_requests.specs.Covering.{CoversThere}
use Rattle.geo_laws_requests.proofs.Covered.{number_of_found}

-- a provider of a disk, with its geom
pub record AtDisk (t : Topology Config) (n disk : ℕ) : Type 0 where
  pub provider : Provider
  pub geom : Geom Config
  pub at : provider_at t n ≡ Some provider
  pub of : geom_at t provider.geom ≡ Some geom
  pub config : geom.config ≡ Disk disk

-- where there is a disk, the provider and its geom are found
pub at_disk : (t : Topology Config) (n disk : ℕ) → disk_at t n ≡ Some disk → AtDisk t n disk
at_disk t n disk e = by (provider_at t n) refl e
  where
    geom_by : (p : Provider) → provider_at t n ≡ Some p → (o : Option (Geom Config)) → geom_at t p.geom ≡ o
        → option_and_then (λ (g : Geom Config). disk_of g.config) o ≡ Some disk → AtDisk t n disk
    geom_by p at None of e = absurd (let bad : ⊥ = cc in bad)
    geom_by p at (Some g) of e =
        record { provider = p; geom = g; at = at; of = of; config = is_disk g.config disk e }

    by : (o : Option Provider) → provider_at t n ≡ o
        → option_and_then (λ (g : Geom Config). disk_of g.config)
        (option_and_then (λ (x : Provider). geom_at t x.geom) o) ≡ Some disk
        → AtDisk t n disk
    by None at e = absurd (let bad : ⊥ = cc in bad)
    by (Some p) at e = geom_by p at (geom_at t p.geom) refl e

module _ (t : Topology Config) (n disk : ℕ) (d : AtDisk t n disk) where
  -- both are found at once
  both_found : provider_with_geom t n ≡ Some (d.provider, d.geom)
  both_found = rw (d.at, d.of) refl

  -- there is at least one geom
  some_geom : (k : ℕ) × (length t.geoms ≡ suc k)
  some_geom = by t.geoms refl
    where
      by : (gs : List (Geom Config)) → t.geoms ≡ gs → (k : ℕ) × (length t.geoms ≡ suc k)
      by [] e =
          let none : geom_at t d.provider.geom ≡ None =
          ap (λ gs. find (λ (x : Geom Config). x.number == d.provider.geom) gs) e in
          absurd (let bad : ⊥ = (let is = d.of in cc) in bad)
      by (g ∷ gs) e = (length gs, ap (λ xs. length xs) e)

  -- one level down is the disk
  flat_level : (k o : ℕ) → flat_within (suc k) t n o ≡ Some (record { disk = disk; sector = o / d.provider.sector })
  flat_level k o =
      ap (λ z. z >>= (λ here. flat_step (flat_within k t) t here.1.config here.0 o)) both_found
      ∙ ap (λ config. flat_step (flat_within k t) t config d.provider o) d.config

  -- and so it is the one end
  ends_level : (k : ℕ) → ends_within (suc k) t n ≡ disk ∷ []
  ends_level k =
      ap (λ z. option_map_or (λ here. ends_step (ends_within k t) t here.1.config) z []) both_found
      ∙ ap (λ config. ends_step (ends_within k t) t config) d.config

  -- an offset lies in the sector of the disk that holds it
  pub flat_at_disk : (o : ℕ) → flat t n o ≡ Some (record { disk = disk; sector = o / d.provider.sector })
  flat_at_disk o = ap (λ k. flat_within k t n o) some_geom.1 ∙ flat_level some_geom.0 o

  -- the disk is the only end
  pub ends_at_disk : ends t n ≡ disk ∷ []
  ends_at_disk = ap (λ k. ends_within k t n) some_geom.1 ∙ ends_level some_geom.0

-- a sector has a byte
pub sector_bytes : (s : ℕ) → IsSectorSize s → 0 < s
sector_bytes s (inl e) = omega (arith, e)
sector_bytes s (inr e) = omega (arith, e)

-- the sector of an offset that is k whole sectors behind another
sector_behind : (o s k : ℕ) → 0 < s → o % s ≡ 0 → (o + k * s) / s ≡ o / s + k
sector_behind o s k some whole =
    let split : o % s + s * (o / s) ≡ o = mod-add-div o s in
    let turned : s * (o / s) ≡ (o / s) * s = mul_comm s (o / s) in
    let joined : (o / s + k) * s ≡ (o / s) * s + k * s = add-mul (o / s) k s in
    ap (λ n. n / s) (let e : o + k * s ≡ (o / s + k) * s + 0 = omega (arith, split, turned, joined, whole) in e)
    ∙ div-mul-add (o / s + k) s 0 some

module _ (t : Topology Config) (n disk : ℕ) (d : AtDisk t n disk) where
  -- one sector after another
  sectors_at : (o s first a len : ℕ) → d.provider.sector ≡ s → 0 < s → o % s ≡ 0 → first ≡ o / s + a
      → map (λ (x : DiskSector). Some x)
      (map (λ k. record { disk = disk; sector = k }) (range_with_len first len))
      ≡ map (flat t n) (map (λ k. o + k * s) (range_with_len a len))
  sectors_at o s first a zero sector some whole is = refl
  sectors_at o s first a (suc len) sector some whole is =
      let here : flat t n (o + a * s) ≡ Some (record { disk = disk; sector = first }) =
      flat_at_disk t n disk d (o + a * s)
      ∙ ap (λ k. Some (record { disk = disk; sector = k }))
      (ap (λ z. (o + a * s) / z) sector ∙ sector_behind o s a some whole ∙ sym is) in
      rw here (ap (λ xs. Some (record { disk = disk; sector = first }) ∷ xs)
      (sectors_at o s (first + 1) (a + 1) len sector some whole (omega (arith, is))))

-- a command is the same as itself
same_command : (c : BioCmd) → IsTrue (same_cmd c c)
same_command cmds.Read = refl
same_command cmds.Write = refl
same_command cmds.Delete = refl
same_command cmds.Flush = refl

-- the leaf of a Take covers the bio, whatever the device answers
pub take_covers : (w : World) (x : Bio) (disk : ℕ) (got : DeviceResult) → IsBioInOrder (granted_in w) w.topology x
    → All (λ p. IsSectorSize p.sector) w.topology.providers → disk_of_bio w x ≡ Some disk
    → CoversThere w x (record { bio = x.number; request = request_of_bio w disk x; got = got } ∷ [])
take_covers w x disk got order sizes is =
    subst (λ o. IsSomeAnd o (λ p. CoversBy w x p (leaf ∷ []))) (sym d.at) (record {
      range = λ moves. record {
        sectors = ranged moves;
        commands = All-from_recursion (λ (leaf : Leaf). IsTrue (same_cmd leaf.request.cmd x.cmd)) (leaf ∷ [])
            (same_command x.cmd, tt);
        bytes = λ writes. append-nil x.bytes;
      };
      flush = λ flushes. record {
        disks = sym (ap (λ n. ends w.topology n) its_number ∙ ends_at_disk w.topology x.target disk d);
        commands = All-from_recursion (λ (leaf : Leaf). IsTrue (same_cmd leaf.request.cmd x.cmd)) (leaf ∷ [])
            (same_command x.cmd, tt);
      };
    })
  where
    d : AtDisk w.topology x.target disk
    d = at_disk w.topology x.target disk is

    leaf : Leaf
    leaf = record { bio = x.number; request = request_of_bio w disk x; got = got }

    its_number : d.provider.number ≡ x.target
    its_number = number_of_found w.topology x.target d.provider d.at

    its_sector : sector_of_bio w x ≡ d.provider.sector
    its_sector = ap (λ o. option_map_or (λ (p : Provider). p.sector) o 512) d.at

    some : 0 < d.provider.sector
    some = sector_bytes d.provider.sector
        (All-contains (λ (p : Provider). IsSectorSize p.sector) w.topology.providers d.provider sizes
        (find-Contains (λ (p : Provider). p.number == x.target) w.topology.providers d.provider d.at))

    inside : is_flush x.cmd ≡ false → IsRangeInside x d.provider
    inside moves = (rw d.at at order.target) moves

    ranged : IsTrue (not (is_flush x.cmd))
        → map (λ (s : DiskSector). Some s) (flat_map (λ (l : Leaf). sectors_of_request l.request) (leaf ∷ []))
        ≡ map (flat w.topology d.provider.number) (sector_offsets d.provider.sector x.offset x.len)
    ranged moves =
        let whole : x.offset % d.provider.sector ≡ 0 = (inside (not-true (is_flush x.cmd) moves)).offset_whole in
        ap (λ xs. map (λ (s : DiskSector). Some s) xs)
        (append-nil (sectors_of_request (request_of_bio w disk x))
        ∙ ap (λ s. map (λ k. record { disk = disk; sector = k }) (range_with_len (x.offset / s) (x.len / s)))
        its_sector)
        ∙ sectors_at w.topology x.target disk d x.offset d.provider.sector (x.offset / d.provider.sector) 0
        (x.len / d.provider.sector) refl some whole (omega arith)
        ∙ ap (λ n. map (flat w.topology n) (sector_offsets d.provider.sector x.offset x.len)) (sym its_number)
