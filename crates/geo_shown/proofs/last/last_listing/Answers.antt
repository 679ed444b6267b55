use Rattle.std.proofs.Common.{ℕ, ◌≡◌, List, sym, ap, ◌∙◌, take, arith}
use Rattle.std.proofs.lemmas.List.{take_all}
use Rattle.geo_model.specs.declared.step.Entry.{Entry}
use Rattle.geo_headline.specs.Viewing.{shown}
use Rattle.geo_shown.proofs.LastLemmas.{found_listing, found_none, found_number}
use Rattle.geo_shown.proofs.last.last_listing.Goals as goal

pub loop-count-init : goal.loop-count-init
loop-count-init c = record {
  within = omega arith;
  so_far = ap (λ (l : List Entry). shown c.args.seat l) (take_all _ c.args.entries.now (omega arith));
}

-- no entry behind this one is a listing of the seat, and this one is
pub returns-in-Some-clause-number : goal.returns-in-Some-clause-number
returns-in-Some-clause-number c =
    found_number c.args.seat c.args.entries.now c.loop-count.count c.index-entries-count.result c.in-Some.list.now
    c.loop-count-test.true c.loop-count.invariant.within c.index-entries-count.is (sym c.in-Some.ensures)
    c.loop-count.invariant.so_far

pub returns-in-Some-clause-listed : goal.returns-in-Some-clause-listed
returns-in-Some-clause-listed c =
    found_listing c.args.seat c.args.entries.now c.loop-count.count c.index-entries-count.result c.in-Some.list.now
    c.loop-count-test.true c.loop-count.invariant.within c.index-entries-count.is (sym c.in-Some.ensures)

-- this entry is no listing of the seat, so the last one is before it
pub loop-count-preserved : goal.loop-count-preserved
loop-count-preserved c = record {
  within = omega arith;
  so_far = found_none c.args.seat c.args.entries.now c.loop-count.count c.index-entries-count.result
      c.loop-count-test.true c.loop-count.invariant.within c.index-entries-count.is (sym c.in_default.ensures)
      c.loop-count.invariant.so_far;
}

pub returns-clause-number : goal.returns-clause-number
returns-clause-number c =
    let none : c.loop-count.count ≡ 0 = omega arith in
    sym c.loop-count.invariant.so_far ∙ ap (λ (n : ℕ). shown c.args.seat (take n c.args.entries.now)) none
