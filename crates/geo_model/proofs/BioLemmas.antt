-- Phases and commands of bios, by the tests that they pass.
use Rattle.std.specs.Prelude.{◌≡◌, ℕ, Bool, true, false}
use Rattle.std.proofs.Common.{refl}
use Rattle.geo_base.specs.declared.request.BioCmd.{BioCmd}
use Rattle.geo_base.specs.declared.request.BioCmd.TheVariants as cmds
use Rattle.geo_model.specs.declared.step.Phase.{Phase}
use Rattle.geo_model.specs.declared.step.Phase.TheVariants as phases
use Rattle.geo_model.specs.Words.{is_flush, is_read, is_write}
use Rattle.geo_model.specs.World.{is_busy, is_down, is_sent, is_waiting}

-- a phase that is Down
pub phase_down : (p : Phase) → is_down p ≡ true → p ≡ phases.Down
phase_down phases.Down e = refl
phase_down phases.Sent e = absurd (let bad : ⊥ = cc in bad)
phase_down (phases.Busy seat) e = absurd (let bad : ⊥ = cc in bad)
phase_down phases.Waiting e = absurd (let bad : ⊥ = cc in bad)
phase_down phases.Up e = absurd (let bad : ⊥ = cc in bad)
phase_down phases.Done e = absurd (let bad : ⊥ = cc in bad)

-- a phase that is Sent
pub phase_sent : (p : Phase) → is_sent p ≡ true → p ≡ phases.Sent
phase_sent phases.Down e = absurd (let bad : ⊥ = cc in bad)
phase_sent phases.Sent e = refl
phase_sent (phases.Busy seat) e = absurd (let bad : ⊥ = cc in bad)
phase_sent phases.Waiting e = absurd (let bad : ⊥ = cc in bad)
phase_sent phases.Up e = absurd (let bad : ⊥ = cc in bad)
phase_sent phases.Done e = absurd (let bad : ⊥ = cc in bad)

-- a phase that is Waiting
pub phase_waiting : (p : Phase) → is_waiting p ≡ true → p ≡ phases.Waiting
phase_waiting phases.Down e = absurd (let bad : ⊥ = cc in bad)
phase_waiting phases.Sent e = absurd (let bad : ⊥ = cc in bad)
phase_waiting (phases.Busy seat) e = absurd (let bad : ⊥ = cc in bad)
phase_waiting phases.Waiting e = refl
phase_waiting phases.Up e = absurd (let bad : ⊥ = cc in bad)
phase_waiting phases.Done e = absurd (let bad : ⊥ = cc in bad)

-- a phase that passes a test which no Busy phase does, isn't Busy
pub quiet_phase : (test : Phase → Bool) → ((seat : ℕ) → test (phases.Busy seat) ≡ false) → (p : Phase) → test p ≡ true
    → is_busy p ≡ false
quiet_phase test out (phases.Busy seat) e = (let idle : test (phases.Busy seat) ≡ false = out seat in absurd cc)
quiet_phase test out phases.Down e = refl
quiet_phase test out phases.Sent e = refl
quiet_phase test out phases.Waiting e = refl
quiet_phase test out phases.Up e = refl
quiet_phase test out phases.Done e = refl

-- a READ is no FLUSH
pub read_moves : (cmd : BioCmd) → is_read cmd ≡ true → is_flush cmd ≡ false
read_moves cmds.Read read = refl
read_moves cmds.Write read = refl
read_moves cmds.Delete read = refl
read_moves cmds.Flush read = absurd cc

-- a WRITE is no FLUSH
pub write_moves : (cmd : BioCmd) → is_write cmd ≡ true → is_flush cmd ≡ false
write_moves cmds.Read write = refl
write_moves cmds.Write write = refl
write_moves cmds.Delete write = refl
write_moves cmds.Flush write = absurd cc
