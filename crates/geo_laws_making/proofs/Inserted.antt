-- An insert: the disk stands, with one provider, which is offered for taste; or the command is refused.
use Rattle.std.specs.Prelude.{◌≡◌, ℕ, ◌+◌, suc, false, List, [], ◌∷◌, Option, Some, None, All, Contains, slice_get}
use Rattle.std.specs.List.{list_any, enumerate_from}
use Rattle.std.proofs.Common.{inl, inr, refl, ap, subst, arith}
use Rattle.std.proofs.lemmas.List.Elements.{All-contains, All-from_recursion}
use Rattle.geo_base.specs.declared.kind.Kind.TheVariants as kinds
use Rattle.geo_model.specs.Words.{same_name}
use Rattle.geo_model.specs.Topology.{is_name_taken}
use Rattle.geo_model.specs.World.{World, Disk, HeaderDisk}
use Rattle.geo_model.specs.Acceptance.{NewSlice}
use Rattle.geo_model.specs.GeomCommands.{header_disk, is_geom_of_disk, stand, insert_tests, do_insert}
use Rattle.geo_model.specs.Fitting.{IsHeaderDisk, Firm}
use Rattle.geo_laws_graph.proofs.Members.{find-Contains, Contains-cases, Contains-here, Contains-there, nothing_in}
use Rattle.geo_laws_life.proofs.Standers.{pairs-from_recursion}
use Rattle.geo_laws_life.proofs.Found.{some-with}
use Rattle.geo_laws_making.proofs.Over.{false_true}
use Rattle.geo_laws_making.specs.GeomLaws.{InsertsStayFirm}
use Rattle.geo_laws_making.specs.MakingLaws.{CanOffer, CanMake}
use Rattle.geo_laws_making.proofs.Pulled.{answered-firm}
use Rattle.geo_laws_making.proofs.Made.{made-firm}

-- a numbered item: the item at the number
pub record IsNumbered {X : Type 0} (k : ℕ) (xs : List X) (item : ℕ × X) : Type 0 where
  pub place : ℕ
  pub number : item.0 ≡ k + place
  pub at : slice_get xs place ≡ Some item.1
  pub here : Contains xs item.1

-- each of the items with their numbers is so
numbered : {X : Type 0} (k : ℕ) (xs : List X) (item : ℕ × X) → Contains (enumerate_from k xs) item
    → IsNumbered k xs item
numbered k [] item here = absurd (nothing_in item here)
numbered {X} k (x ∷ xs) item here =
    elim (Contains-cases (k, x) item (enumerate_from (k + 1) xs) here) [
      | inl same ↦
          (let first : k ≡ item.0 = ap (λ (z : ℕ × X). z.0) same in
          record {
            place = 0;
            number = omega arith;
            at = ap (λ (z : ℕ × X). Some z.1) same;
            here = subst (λ (z : ℕ × X). Contains (x ∷ xs) z.1) same (Contains-here x xs);
          })
      | inr rest ↦
          (let more = numbered (k + 1) xs item rest in
          let number : item.0 ≡ k + 1 + more.place = more.number in
          record {
            place = suc more.place;
            number = omega arith;
            at = more.at;
            here = Contains-there x item.1 xs more.here;
          })
    ]

module _ (w : World) (item : ℕ × HeaderDisk) (firm : Firm w) (is : IsNumbered 0 w.disks item)
    (none : list_any (is_geom_of_disk item.0) w.topology.geoms ≡ false)
    (free : is_name_taken w.topology item.1.name ≡ false) where
  -- the provider to be made
  abbrev slice : NewSlice
  slice = record { name = item.1.name; size = item.1.size }

  -- the disk's sizes are those of one
  sizes : IsHeaderDisk item.1
  sizes = All-contains IsHeaderDisk w.disks item.1 firm.sizes.disks is.here

  -- the place in the header
  at_number : slice_get w.disks item.0 ≡ Some item.1
  at_number = let same : is.place ≡ item.0 = (let e : item.0 ≡ 0 + is.place = is.number in omega arith) in
      subst (λ m. slice_get w.disks m ≡ Some item.1) same is.at

  -- so the geom of the disk can be made
  disk_can : CanMake w kinds.Disk (Disk item.0) [] item.1.sector (slice ∷ [])
  disk_can = record {
    fits = refl;
    dev = refl;
    taste = refl;
    found = λ k d short. absurd (omega (arith, short));
    low = omega arith;
    wholes = λ k d short. absurd (omega (arith, short));
    filled = λ k d short. absurd (omega (arith, short));
    apart = λ i j d less short. absurd (omega (arith, short));
    few = omega arith;
    places = tt;
    disk = record {
      none = none;
      sizes = some-with (slice_get w.disks item.0) (λ disk. (item.1.sector ≡ disk.sector)
          × All (λ (x : NewSlice). x.size ≡ disk.size) (slice ∷ [])) item.1 at_number
          (refl, All-from_recursion (λ (x : NewSlice). x.size ≡ item.1.size) (slice ∷ []) (refl, tt));
    };
    sectors = sizes.sector;
    offers = All-from_recursion (CanOffer w (Disk item.0) [] item.1.sector) (slice ∷ [])
        (record { free = free; size = sizes.size; leads = inl refl }, tt);
    names = pairs-from_recursion (λ (x y : NewSlice). same_name x.name y.name ≡ false) (slice ∷ []) (tt, tt);
    partial = λ some. false_true some;
    one = λ concat. absurd (let no : ⊥ = cc in no);
    sums = λ joined.
        elim joined [
          | inl concat ↦ absurd (let no : ⊥ = cc in no)
          | inr stripe ↦ absurd (let no : ⊥ = cc in no)
        ];
  }

  -- and the disk stands
  pub stand-firm : Firm (stand w item)
  stand-firm = made-firm w kinds.Disk item.1.name (Disk item.0) false [] item.1.sector (slice ∷ []) firm disk_can

-- an insert keeps a firm world firm
insert-firm : (w : World) (line : ℕ) (disk : List ℕ) (o : Option (ℕ × HeaderDisk)) → header_disk w disk ≡ o → Firm w
    → Firm (do_insert w line o).0
insert-firm w line disk None found firm = firm
insert-firm w line disk (Some item) found firm =
    answered-firm w line (insert_tests w.topology item) (stand w item) firm (λ none.
    stand-firm w item firm
    (numbered 0 w.disks item (find-Contains (λ (z : ℕ × HeaderDisk). same_name z.1.name disk)
    (enumerate_from 0 w.disks) item found))
    none.0 none.1.0)

-- so say all inserts
pub inserts_stay : InsertsStayFirm
inserts_stay = record { insert = λ w line disk firm. insert-firm w line disk (header_disk w disk) refl firm }
