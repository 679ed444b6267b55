-- A pull and a destroy: a geom withers, or the command is refused.
use Rattle.std.specs.Prelude.{◌≡◌, ◌≢◌, ℕ, ◌==◌, Bool, true, false, not, ◌&&◌, List, find, Option, Some, None, [], ◌∷◌}
use Rattle.std.specs.Option.{option_map_or}
use Rattle.std.proofs.Common.{inl, inr, refl, sym, ◌∙◌, ap, subst}
use Rattle.std.proofs.lemmas.Bool.{and_parts, eqb-true, eq-eqb}
use Rattle.std.proofs.lemmas.List.Elements.{All-contains}
use Rattle.geo_base.specs.Kind.{adds_exclusive}
use Rattle.geo_base.specs.declared.errno.Errno.{Errno}
use Rattle.geo_base.specs.declared.kind.Kind.{Kind}
use Rattle.geo_base.specs.declared.kind.Kind.TheVariants as kinds
use Rattle.geo_model.specs.Words.{first_error, is_kind, kind_number, same_name}
use Rattle.geo_model.specs.Topology.{Geom}
use Rattle.geo_model.specs.World.{World, Config, Disk, HeaderDisk, granted_in}
use Rattle.geo_model.specs.Events.{wither}
use Rattle.geo_model.specs.WorldEvents.{queued_of, with_queued}
use Rattle.geo_model.specs.Place.{disk_of}
use Rattle.geo_model.specs.HandleCommands.{answer}
use Rattle.geo_model.specs.GeomCommands.{is_geom_of_disk, wither_found, do_pull, destroy_tests, do_destroy, named_geom}
use Rattle.geo_model.specs.Plans.{IsNamedClass}
use Rattle.geo_model.specs.Sound.{fits_kind, IsOfItsClass}
use Rattle.geo_model.specs.Fitting.{Firm}
use Rattle.geo_model.proofs.DemandLemmas.{find_passes}
use Rattle.geo_laws_graph.proofs.Classes.{is_disk}
use Rattle.geo_laws_graph.proofs.Members.{Has, find-Contains}
use Rattle.geo_laws_life.proofs.Withering.{withered-firm}
use Rattle.geo_laws_making.proofs.Over.{false_true}
use Rattle.geo_laws_making.specs.GeomLaws.{PullsStayFirm, DestroysStayFirm}
use Rattle.geo_model.proofs.RefusalLemmas.{none_refused}
use Rattle.std.specs.List.{AllByRecursion}

-- a geom that isn't of DEV or TASTE has neither's number
pub neither_fixed : (g : Geom Config) → IsOfItsClass g → is_kind g.kind kinds.Dev ≡ false
    → is_kind g.kind kinds.Taste ≡ false
    → (g.number ≢ 1) × (g.number ≢ 2)
neither_fixed g class dev taste = (
  λ same. false_true (sym dev ∙ class.dev ∙ eq-eqb g.number 1 same),
  λ same. false_true (sym taste ∙ class.taste ∙ eq-eqb g.number 2 same),
)

-- the geom that is found is of its class
class_of_found : (w : World) → Firm w → (test : Geom Config → Bool) (g : Geom Config)
    → find test w.topology.geoms ≡ Some g
    → IsOfItsClass g
class_of_found w firm test g found =
    All-contains IsOfItsClass w.topology.geoms g firm.graph.numbers.classes
    (find-Contains test w.topology.geoms g found)

-- where a number is the one of an optional one, it is there
number_there : (o : Option ℕ) (n : ℕ) → option_map_or (λ d. d == n) o false ≡ true → Has o
number_there None n e = false_true e
number_there (Some d) n e = record { item = d; is = refl }

-- a configuration of a disk is one of no other class
disk_class : (kind : Kind) (disk : ℕ) → fits_kind kind (Disk disk) ≡ true → kind ≡ kinds.Disk
disk_class kinds.Disk disk e = refl
disk_class _ disk e = false_true e

-- so the geom of a disk is one of DISK
of_disk : (kind : Kind) (config : Config) (d : ℕ) → fits_kind kind config ≡ true → disk_of config ≡ Some d
    → kind ≡ kinds.Disk
of_disk kind config d fits e = disk_class kind d (subst (λ c. fits_kind kind c ≡ true) (is_disk config d e) fits)

-- a geom that is found by a test withers, where the test leaves out DEV and TASTE
found-firm : (w : World) (line : ℕ) (e : Errno) (test : Geom Config → Bool)
    → ((g : Geom Config) → IsOfItsClass g → test g ≡ true → (g.number ≢ 1) × (g.number ≢ 2))
    → Firm w → (o : Option (Geom Config)) → find test w.topology.geoms ≡ o → Firm (wither_found w line o e).0
found-firm w line e test other firm None found = firm
found-firm w line e test other firm (Some g) found =
    let apart = other g (class_of_found w firm test g found) (find_passes test w.topology.geoms g found) in
    withered-firm w g.number firm apart.0 apart.1

-- the geom of a disk isn't DEV or TASTE
disk_apart : (disk : ℕ) (g : Geom Config) → IsOfItsClass g → (is_geom_of_disk disk g && not g.withering) ≡ true
    → (g.number ≢ 1) × (g.number ≢ 2)
disk_apart disk g class passes =
    let d = number_there (disk_of g.config) disk (and_parts (is_geom_of_disk disk g) (not g.withering) passes).0 in
    let kind = of_disk g.kind g.config d.item class.config d.is in
    neither_fixed g class (ap (λ k. is_kind k kinds.Dev) kind) (ap (λ k. is_kind k kinds.Taste) kind)

-- a pull keeps a firm world firm
pull-firm : (w : World) (line : ℕ) (o : Option (ℕ × HeaderDisk)) → Firm w → Firm (do_pull w line o).0
pull-firm w line None firm = firm
pull-firm w line (Some item) firm =
    found-firm w line _ (λ g. is_geom_of_disk item.0 g && not g.withering) (disk_apart item.0) firm
    (find (λ g. is_geom_of_disk item.0 g && not g.withering) w.topology.geoms) refl

-- so say all pulls
pub pulls_stay : PullsStayFirm
pulls_stay = record { pull = pull-firm }

-- where nothing is refused each test fails
pub none-refuses : (tests : List (Bool × Errno)) → first_error tests ≡ None
    → AllByRecursion (λ (test : Bool × Errno). test.0 ≡ false) tests
none-refuses [] none = tt
none-refuses (test ∷ tests) none =
    let first = none_refused test.0 test.1 tests none in (first.0, none-refuses tests first.1)

-- an answer leaves a world firm where the world that is made is, once each test fails
pub answered-firm : (w : World) (line : ℕ) (tests : List (Bool × Errno)) (after : World) → Firm w
    → (AllByRecursion (λ (test : Bool × Errno). test.0 ≡ false) tests → Firm after)
    → Firm (answer w line (first_error tests) after).0
answered-firm w line tests after firm made = by (first_error tests) refl where
  -- by whether one refuses
  by : (o : Option Errno) → first_error tests ≡ o → Firm (answer w line o after).0
  by None none = made (none-refuses tests none)
  by (Some e) some = firm

-- a class that a command names isn't DEV or TASTE
named_class : (kind : Kind) → IsNamedClass kind → (is_kind kind kinds.Dev ≡ false)
    × (is_kind kind kinds.Taste ≡ false)
named_class kind (inl adds) = by kind adds where
  -- by the class
  by : (kind : Kind) → adds_exclusive kind ≡ true → (is_kind kind kinds.Dev ≡ false)
      × (is_kind kind kinds.Taste ≡ false)
  by kinds.Dev e = false_true e
  by kinds.Taste e = false_true e
  by _ e = (refl, refl)
named_class kind (inr nop) = (ap (λ k. is_kind k kinds.Dev) nop, ap (λ k. is_kind k kinds.Taste) nop)

-- a geom of such a class has neither's number
class_apart : (kind : Kind) → IsNamedClass kind → (g : Geom Config) → IsOfItsClass g → is_kind g.kind kind ≡ true
    → (g.number ≢ 1) × (g.number ≢ 2)
class_apart kind named g class same =
    let number : kind_number g.kind ≡ kind_number kind = eqb-true (kind_number g.kind) (kind_number kind) same in
    let other = named_class kind named in
    neither_fixed g class (ap (λ n. n == kind_number kinds.Dev) number ∙ other.0)
    (ap (λ n. n == kind_number kinds.Taste) number ∙ other.1)

-- a destroy of what a command names keeps a firm world firm
destroy-firm : (w : World) (line : ℕ) (kind : Kind) (name : List ℕ) → IsNamedClass kind → Firm w
    → (o : Option (Geom Config)) → named_geom w kind name ≡ o → Firm (do_destroy w line o).0
destroy-firm w line kind name named firm None found = firm
destroy-firm w line kind name named firm (Some g) found =
    let test : Geom Config → Bool = λ x. is_kind x.kind kind && (not x.withering && same_name x.name name) in
    let apart = class_apart kind named g (class_of_found w firm test g found)
    (and_parts (is_kind g.kind kind) (not g.withering && same_name g.name name)
    (find_passes test w.topology.geoms g found)).0 in
    answered-firm w line (destroy_tests (granted_in w) w.topology g.number)
    (with_queued w (wither (queued_of w) g.number)) firm (λ free. withered-firm w g.number firm apart.0 apart.1)

-- so say all destroys
pub destroys_stay : DestroysStayFirm
destroys_stay = record {
  destroy = λ w line kind name named firm. destroy-firm w line kind name named firm (named_geom w kind name) refl;
}
