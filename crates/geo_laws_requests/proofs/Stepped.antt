-- Each step keeps the ledger, and so does each legal log.
use Rattle.std.proofs.Common.{refl}
use Rattle.geo_model.specs.declared.step.Step.TheVariants as steps
use Rattle.geo_laws_requests.proofs.Arrivals.{made_known}
use Rattle.geo_laws_requests.specs.Ledger.{StepsKeepLedger}
use Rattle.geo_laws_requests.proofs.Quiet.{quiet_keeps}
use Rattle.geo_laws_requests.proofs.Starts.{starts_keep}
use Rattle.geo_laws_requests.proofs.Takes.{delivers_keep, takes_keep}
use Rattle.geo_laws_requests.proofs.Ups.{ups_keep}

-- each step keeps the ledger, where the maps stay
pub steps_keep_ledger : StepsKeepLedger
steps_keep_ledger h w v seat (steps.Start b) o ledger firm maps made =
    starts_keep h w v seat b o ledger firm.bios.numbers firm.bios.families maps made
steps_keep_ledger h w v seat (steps.Take disk b) o ledger firm maps made =
    takes_keep h w v seat disk b o ledger firm.bios.numbers firm.bios.order firm.sizes.sectors maps made
steps_keep_ledger h w v seat (steps.Deliver b got) o ledger firm maps made =
    delivers_keep h w v seat b got o ledger firm.bios.numbers maps made
steps_keep_ledger h w v seat (steps.Up b) o ledger firm maps made =
    ups_keep h w v seat b o ledger firm maps made
steps_keep_ledger h w v seat s o ledger firm maps made =
    quiet_keeps h w v seat s o ledger firm.bios.numbers (λ b. refl) made maps (made_known w v seat s o refl made)
