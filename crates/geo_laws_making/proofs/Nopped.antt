-- A nop: a geom over one provider, with a provider for its window; or the command is refused.
use Rattle.std.specs.Prelude.{◌≡◌, ◌≢◌, ℕ, ◌+◌, ◌<◌, ◌≤◌, ◌%◌, ◌==◌, nat_lt, false, not, ◌||◌, List, [], ◌∷◌, Option, Some, None}
use Rattle.std.proofs.Common.{inr, refl, sym, ◌∙◌, subst, arith}
use Rattle.std.proofs.lemmas.Bool.{or_parts, not-false, ltb-false, eqb-true, eq-eqb}
use Rattle.std.proofs.lemmas.List.Elements.{All-contains, All-from_recursion}
use Rattle.geo_base.specs.Name.{is_name}
use Rattle.geo_base.specs.Sectors.{IsSectorSize}
use Rattle.geo_base.specs.declared.kind.Kind.TheVariants as kinds
use Rattle.geo_base.specs.declared.limits.TheConstants.{MAX_MEDIA_BYTES, MAX_RANK}
use Rattle.geo_model.specs.Words.{same_name}
use Rattle.geo_model.specs.Topology.{Provider, provider_at, find_provider, is_name_taken}
use Rattle.geo_model.specs.World.{World}
use Rattle.geo_model.specs.Acceptance.{NewSlice}
use Rattle.geo_model.specs.GeomCommands.{rank_over, with_made, is_invalid_nop, nop_tests, nop_config, do_nop, found_provider}
use Rattle.geo_model.specs.Sound.{IsMediaSize}
use Rattle.geo_model.specs.Fitting.{Firm}
use Rattle.geo_laws_graph.proofs.Members.{find-Contains}
use Rattle.geo_laws_graph.proofs.Numbered.{number_found}
use Rattle.geo_laws_life.proofs.Standers.{pairs-from_recursion}
use Rattle.geo_laws_making.specs.GeomLaws.{NopsStayFirm}
use Rattle.geo_laws_making.specs.MakingLaws.{HasPlace, CanOffer, CanMake}
use Rattle.geo_laws_making.proofs.Pulled.{answered-firm}
use Rattle.geo_laws_making.proofs.Over.{false_true}
use Rattle.geo_laws_making.proofs.Made.{through, made-firm, IsPlain, plain-place, plain-can}

-- a provider that is found by its number
pub found_by_number : (w : World) (n : ℕ) (p : Provider) → provider_at w.topology n ≡ Some p
    → provider_at w.topology p.number ≡ Some p
found_by_number w n p e =
    subst (λ m. provider_at w.topology m ≡ Some p)
    (sym (number_found (λ (x : Provider). x.number) w.topology.providers n p e)) e

module _ (w : World) (firm : Firm w) (p : Provider) (name : List ℕ) (offset size fail : ℕ)
    (found : provider_at w.topology p.number ≡ Some p) (free : is_name_taken w.topology name ≡ false)
    (valid : is_invalid_nop p name offset size ≡ false) (low : nat_lt MAX_RANK (rank_over w.topology (p ∷ []))
    ≡ false) where
  -- the number of the consumer
  abbrev c : ℕ
  c = w.topology.next_consumer

  -- the provider to be made
  abbrev slice : NewSlice
  slice = record { name = name; size = size }

  -- what is valid: the size is some, in whole sectors, and so is the offset; and the window is inside
  pub record IsWindow : Type 0 where
    pub some : 1 ≤ size
    pub offset_whole : offset % p.sector ≡ 0
    pub size_whole : size % p.sector ≡ 0
    pub inside : offset + size ≤ p.size

  -- so it is
  window : IsWindow
  window =
      let a = or_parts (size == 0) (not (offset % p.sector == 0) || (not (size % p.sector == 0)
      || (nat_lt p.size (offset + size) || not (is_name name)))) valid in
      let b = or_parts (not (offset % p.sector == 0)) (not (size % p.sector == 0)
      || (nat_lt p.size (offset + size) || not (is_name name))) a.1 in
      let d = or_parts (not (size % p.sector == 0)) (nat_lt p.size (offset + size) || not (is_name name)) b.1 in
      let e = or_parts (nat_lt p.size (offset + size)) (not (is_name name)) d.1 in
      record {
        some = some_size size a.0;
        offset_whole = eqb-true (offset % p.sector) 0 (not-false (offset % p.sector == 0) b.0);
        size_whole = eqb-true (size % p.sector) 0 (not-false (size % p.sector == 0) d.0);
        inside = ltb-false p.size (offset + size) e.0;
      }
    where
      -- a size that isn't zero
      some_size : (n : ℕ) → (n == 0) ≡ false → 1 ≤ n
      some_size n e = not_zero n (λ zero. false_true (sym e ∙ eq-eqb n 0 zero)) where
        -- by arithmetic
        not_zero : (n : ℕ) → n ≢ 0 → 1 ≤ n
        not_zero n apart = omega arith

  -- the provider's own size
  media : IsMediaSize p.size p.sector
  media = All-contains (λ (x : Provider). IsMediaSize x.size x.sector) w.topology.providers p
      firm.graph.providers.sizes
      (find-Contains (λ (x : Provider). x.number == p.number) w.topology.providers p found)

  -- the size of the window is one
  window_size : IsMediaSize size p.sector
  window_size =
      let i : offset + size ≤ p.size = window.inside in
      let m : p.size ≤ MAX_MEDIA_BYTES = media.limited in
      record { positive = window.some; whole = window.size_whole; limited = omega arith }

  -- the configuration is one over one consumer
  plain : IsPlain kinds.Nop (nop_config w.topology offset fail) c
  plain = record {
    fits = refl;
    dev = refl;
    taste = refl;
    concat = refl;
    stripe = refl;
    one_component = refl;
    first_component = refl;
    no_places = refl;
    no_sizes = refl;
    no_disk = refl;
  }

  -- an offset has its place in it
  has_place : (o : ℕ) → o < size → HasPlace (nop_config w.topology offset fail) (p ∷ []) c p.sector name o
  has_place o short =
      let i : offset + size ≤ p.size = window.inside in
      plain-place w kinds.Nop (nop_config w.topology offset fail) p plain p.sector name o (offset + o) refl
      (omega arith) refl

  -- so the nop can be made
  nop_can : CanMake w kinds.Nop (nop_config w.topology offset fail) (p ∷ []) p.sector (slice ∷ [])
  nop_can =
      plain-can w kinds.Nop (nop_config w.topology offset fail) p plain p.sector (slice ∷ []) found
      (ltb-false MAX_RANK (rank_over w.topology (p ∷ [])) low) window.offset_whole
      (All-contains (λ (x : Provider). IsSectorSize x.sector) w.topology.providers p firm.sizes.sectors
      (find-Contains (λ (x : Provider). x.number == p.number) w.topology.providers p found))
      (All-from_recursion (CanOffer w (nop_config w.topology offset fail) (p ∷ []) p.sector) (slice ∷ [])
      (record { free = free; size = window_size; leads = inr has_place }, tt))
      (pairs-from_recursion (λ (x y : NewSlice). same_name x.name y.name ≡ false) (slice ∷ []) (tt, tt))

  -- and it stands
  pub nopped-firm : Firm (with_made w kinds.Nop name (nop_config w.topology offset fail) (p ∷ []) name size
      p.sector)
  nopped-firm =
      made-firm w kinds.Nop name (nop_config w.topology offset fail) false (p ∷ []) p.sector (slice ∷ []) firm
      nop_can

-- a nop over what is found keeps a firm world firm
nop-firm : (w : World) (line : ℕ) (name : List ℕ) (offset size fail : ℕ) (o : Option Provider)
    → ((p : Provider) → o ≡ Some p → provider_at w.topology p.number ≡ Some p) → Firm w
    → Firm (do_nop w line name offset size fail o).0
nop-firm w line name offset size fail None found firm = firm
nop-firm w line name offset size fail (Some p) found firm =
    answered-firm w line (nop_tests w.topology name offset size p)
    (with_made w kinds.Nop name (nop_config w.topology offset fail) (p ∷ []) name size p.sector) firm (λ none.
    nopped-firm w firm p name offset size fail (found p refl) none.1.0 none.1.1.0 none.1.1.1.0)

-- so say all nops
pub nops_stay : NopsStayFirm
nops_stay = record {
  nop = λ w line name offset size fail prov firm.
      nop-firm w line name offset size fail (found_provider w prov) (λ p e.
      let n = through (provider_at w.topology) (find_provider w.topology prov) p e in
      found_by_number w n.first p n.then) firm;
}
