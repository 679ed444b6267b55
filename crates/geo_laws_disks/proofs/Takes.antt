-- What a Take of a firm mesh asks can be served, and each answer that fits can be delivered.
use Rattle.std.proofs.Common.{◌≡◌, ℕ, ◌+◌, ◌*◌, ◌/◌, ◌%◌, ◌==◌, ◌<◌, ◌≤◌, nat_le, Bool, true, false, not, ◌&&◌, ◌||◌, length, find, Some, IsSomeAnd, IsTrue, if◌then◌else◌, refl, sym, ◌∙◌, ap, subst, arith, div-mul-le_self, le_of_mul-le-mul_right, mul_comm, zero-mul, eq-eqb, eqb-true}
use Rattle.geo_base.specs.declared.limits.TheConstants.{MAX_REQUEST_BYTES}
use Rattle.geo_model.specs.declared.step.DeviceResult.{DeviceResult}
use Rattle.geo_model.specs.declared.step.DeviceResult.TheVariants as devices
use Rattle.geo_model.specs.declared.step.Outcome.{Outcome}
use Rattle.geo_model.specs.declared.step.Outcome.TheVariants as outcomes
use Rattle.geo_model.specs.declared.step.Phase.TheVariants as phases
use Rattle.geo_model.specs.declared.step.Request.{Request}
use Rattle.geo_model.specs.Bios.{fits_bio, request_of_bio, sector_of_bio, take_bio}
use Rattle.geo_model.specs.Words.{is_flush, is_read}
use Rattle.geo_model.specs.World.{World, Bio, bio_at, change_number}
use Rattle.geo_model.proofs.BioLemmas.{read_moves}
use Rattle.geo_serve.specs.Serve.{fits_request}
use Rattle.geo_laws_graph.proofs.Numbered.{number_found, at-here}
use Rattle.geo_laws_requests.proofs.Named.{TakesIt, takes_it}
use Rattle.geo_laws_requests.proofs.Starts.{in_phase}
use Rattle.geo_laws_disks.specs.DriveLaws.{IsReadOf, TakesAreServable}
use Rattle.geo_laws_disks.proofs.Answerable.{can_be_delivered}
use Rattle.geo_laws_disks.proofs.Inside.{GoesTo, goes_to, whole_back}

-- a READ of whole sectors asks for each byte
all_bytes : (z : ℕ) (x : Bio) (q : Request) → q.count ≡ x.len / z → (is_flush x.cmd ≡ false → x.len % z ≡ 0)
    → is_read x.cmd ≡ true → q.count * z ≡ x.len
all_bytes z x q count whole reads = ap (λ n. n * z) count ∙ whole_back x.len z (whole (read_moves x.cmd reads))

-- an answer that fits a request fits the bio that asks it
fits : (z disk : ℕ) (x : Bio) (q : Request) (got : DeviceResult) → q.cmd ≡ x.cmd → q.count ≡ x.len / z
    → (is_flush x.cmd ≡ false → x.len % z ≡ 0) → IsTrue (fits_request z q got) → IsTrue (fits_bio z x got)
fits z disk x q (devices.Bytes bytes) cmd count whole is = by (is_read x.cmd) refl
    (subst (λ c. IsTrue (is_read c && (length bytes == q.count * z))) cmd is)
  where
    by : (c : Bool) → is_read x.cmd ≡ c → IsTrue (is_read x.cmd && (length bytes == q.count * z))
        → IsTrue (is_read x.cmd && (length bytes == x.len))
    by false reads it = absurd (let bad : ⊥ = (let no = rw reads at it in cc) in bad)
    by true reads it =
        let same : IsTrue (length bytes == q.count * z) = rw reads at it in
        let long : length bytes ≡ q.count * z = eqb-true (length bytes) (q.count * z) same in
        let all : q.count * z ≡ x.len = all_bytes z x q count whole reads in
        rw reads (eq-eqb (length bytes) x.len (long ∙ all))
fits z disk x q devices.Done cmd count whole is = subst (λ c. IsTrue (not (is_read c))) cmd is
fits z disk x q (devices.Failed done) cmd count whole is =
    subst (λ n. IsTrue (if is_read x.cmd || is_flush x.cmd then done == 0 else nat_le done n)) count
    (subst (λ c. IsTrue (if is_read c || is_flush c then done == 0 else nat_le done q.count)) cmd is)

-- as many whole sectors as fit a disk
sectors_fit : (n s c size : ℕ) → 0 < s → n * s ≤ size → size ≡ s * c → n ≤ c
sectors_fit n s c size some fits is =
    le_of_mul-le-mul_right {m = n} {n = c} {k = s} (subst (λ k. n * s ≤ k) (is ∙ mul_comm s c) fits) some

-- each Take
pub takes_are_servable : TakesAreServable
unfolding take_bio
takes_are_servable w v seat disk b q header firm made here lies = record {
  reads = λ read.
      let its : is_read x.cmd ≡ true = subst (λ c. is_read c ≡ true) (ap (λ (r : Request). r.cmd) asks) read in
      subst (λ o. IsSomeAnd o (IsReadOf (q.count * header.sector))) (sym it.found)
      (its, sym (all_bytes header.sector x q count whole its));
  can = λ d sizes. record {
    some_size = subst (λ z. 0 < z) (sym sizes.sector) to.some;
    inside = sectors_fit (q.first + q.count) d.sector d.count header.size
        (subst (λ z. 0 < z) (sym sizes.sector) to.some)
        (subst (λ z. (q.first + q.count) * z ≤ header.size) (sym sizes.sector) lies.inside) sizes.size;
    not_long = subst (λ z. q.count * z ≤ MAX_REQUEST_BYTES) (sym sizes.sector) (short (is_flush q.cmd) refl);
    bytes = λ writes. subst (λ z. length q.bytes ≡ q.count * z) (sym sizes.sector) (lies.bytes writes);
  };
  fits = λ got fit.
      can_be_delivered v seat b busy got taken refl
      (subst (λ z. IsTrue (fits_bio z busy got)) (sym sector_then)
      (fits header.sector disk x q got (ap (λ (r : Request). r.cmd) asks) count whole fit));
}
  where
    it : TakesIt w v seat disk b (outcomes.Asked q)
    it = takes_it w v seat disk b (outcomes.Asked q) made

    x : Bio
    x = it.bio

    same_number : x.number ≡ b
    same_number = number_found (λ (y : Bio). y.number) w.bios b x it.found

    asked : outcomes.Asked q ≡ outcomes.Asked (request_of_bio w disk x)
    asked = ap (λ (m : World × Outcome). m.1) it.made

    asks : q ≡ request_of_bio w disk x
    asks = let same : outcomes.Asked q ≡ outcomes.Asked (request_of_bio w disk x) = asked in cc

    to : GoesTo w x header
    to = subst (λ o. IsSomeAnd o (GoesTo w x)) here (goes_to w v seat disk b (outcomes.Asked q) firm it)

    count : q.count ≡ x.len / header.sector
    count = ap (λ (r : Request). r.count) asks ∙ ap (λ z. x.len / z) to.sector

    whole : is_flush x.cmd ≡ false → x.len % header.sector ≡ 0
    whole moves = (to.moves moves).len_whole

    short : (c : Bool) → is_flush q.cmd ≡ c → q.count * header.sector ≤ MAX_REQUEST_BYTES
    short true flushes = rw (lies.flush flushes).1 (rw (zero-mul header.sector) (omega arith))
    short false moves =
        let its : is_flush x.cmd ≡ false = subst (λ c. is_flush c ≡ false) (ap (λ (r : Request). r.cmd) asks) moves in
        let fits_in : (x.len / header.sector) * header.sector ≤ x.len = div-mul-le_self x.len header.sector in
        let bound : x.len ≤ MAX_REQUEST_BYTES = (to.moves its).not_long in
        rw count (omega (arith, fits_in, bound))

    busy : Bio
    busy = in_phase (phases.Busy seat) x

    bios : v.bios ≡ change_number b (in_phase (phases.Busy seat)) w.bios
    bios =
        ap (λ (m : World × Outcome). m.0.bios) it.made
        ∙ ap (λ n. change_number n (in_phase (phases.Busy seat)) w.bios) same_number

    taken : bio_at v b ≡ Some busy
    taken =
        ap (λ ys. find (λ (y : Bio). y.number == b) ys) bios
        ∙ at-here (λ (y : Bio). y.number) (in_phase (phases.Busy seat)) (λ y. refl) b w.bios x it.found

    sector_then : sector_of_bio v busy ≡ header.sector
    sector_then = ap (λ (m : World × Outcome). sector_of_bio m.0 busy) it.made ∙ to.sector
