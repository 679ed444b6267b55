-- A worker may go to another thread where its drives may.
use denote.RattleType.{RattleType}
use denote.Param.Send.{IsSend, recorded_send, sendable, struct_send}
use denote.Struct.Declared.{shape}
use Rattle.std.proofs.Crossing.{crosses}
use Rattle.geo_lane.proofs.lane_pass.LanePass.TheSendSync as lane_pass
use Rattle.geo_jobs.proofs.disk_job.DiskJob.TheSendSync as disk_job
use Rattle.geo_jobs.proofs.PassSending.{pass_send}
use Rattle.geo_jobs.proofs.ViewSending.{publisher_send}
use Rattle.geo_jobs.proofs.down.DownJob.TheSendSync as down_job
use Rattle.geo_jobs.proofs.events.EventJob.TheSendSync as event_job
use Rattle.geo_jobs.proofs.up.UpJob.TheSendSync as up_job
use Rattle.geo_jobs.specs.contracts.client.ClientJob as client_job
use Rattle.geo_jobs.specs.contracts.job.Job as job
use Rattle.geo_jobs.specs.contracts.job.Role as role
use Rattle.geo_jobs.specs.contracts.run.Worker as worker

client_send : IsSend client_job.the_field.row
client_send = search (sendable, crosses, lane_pass.the_send, publisher_send) depth 20

role_send : (D : RattleType) → IsSend D → IsSend (role.the_field D).row
role_send D d =
    search (
      sendable,
      client_send,
      event_job.the_field_send,
      down_job.the_field_send,
      up_job.the_field_send,
      disk_job.the_field_send D d,
    ) depth 20

job_send : (D : RattleType) → IsSend D → IsSend (job.the_field D).row
job_send D d =
    struct_send (shape (job.the_type D)) (pass_send, (role_send D d, (search (sendable, crosses) depth 20, tt)))

pub worker_send : (D : RattleType) → IsSend D → IsSend (worker.the_row D)
worker_send D d =
    recorded_send (worker.the_field D).row _ _ (worker.the_type D).to_one (search (sendable, job_send D d) depth 20)
