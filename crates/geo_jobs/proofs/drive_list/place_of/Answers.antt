use Rattle.std.proofs.Common.{rules, ◌≡◌, ◌≤◌, ◌∙◌, Some, ap, arith, length, refl}
use Rattle.std.proofs.lemmas.Option.{slice_get_read}
use Rattle.geo_jobs.proofs.drive_list.place_of.Goals as goal

pub returns-then-drives-k-clause-some : goal.returns-then-drives-k-clause-some
returns-then-drives-k-clause-some g c =
    let drives = c.args.drives.now in
    let drive = c.index-drives-k.result in
    let same : drive.0 ≡ c.args.disk = search rules in (
      drive.1,
      slice_get_read drives (length drives) c.loop-k.k drive refl c.loop-k-test.true c.index-drives-k.is
          ∙ ap (λ n. Some (n, drive.1)) same,
    )

-- no drive so far is of the disk, and all were met
pub returns-clause-none : goal.returns-clause-none
returns-clause-none g c k d lt =
    let all : length c.args.drives.now ≤ c.loop-k.k = search rules in
    c.loop-k.invariant k d (omega (arith, lt, all))
