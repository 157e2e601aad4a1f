-- Names of tickets and of jobs within a list of calls: each by the place of the call that opened or began it.
use Rattle.std.specs.Prelude.{ℕ, ◌-◌, ◌^◌, List, [], ◌∷◌, ◌++◌, Option, Some, slice_get}
use Rattle.fjall_history.specs.declared.job.JobId.{JobId}
use Rattle.fjall_history.specs.declared.ticket.Ticket.{Ticket}
use Rattle.fjall_history.specs.declared.ticket.View.{View}
use Rattle.fjall_history.specs.declared.ticket.View.TheVariants.{Present, At}
use Rattle.fjall_history.specs.declared.reply.Reply.{Reply}
use Rattle.fjall_history.specs.declared.reply.Reply.TheVariants.{Began, Opened}
use Rattle.fjall_machine.specs.declared.call.Call.{Call}
use Rattle.fjall_machine.specs.declared.call.Call.TheVariants.{CloneSnapshot, CloseSnapshot, FlushFinish, GetAt, MergeFinish, PageAt}

-- the id of the ticket that a call opened, as its reply tells; where it opened none, the greatest u64, which no ticket has
abbrev pub id_opened : Option Reply → ℕ
id_opened (Some (Opened ticket)) = ticket.id
id_opened reply = 2 ^ 64 - 1

-- the job that a call began, as its reply tells; where it began none, one of the greatest number, which no job has
abbrev pub job_begun : Option Reply → JobId
job_begun (Some (Began (Some job))) = job
job_begun reply = record { number = 2 ^ 64 - 1; keyspace_id = 0 }

-- the ticket that the call at a place opened, where the calls so far got these replies
abbrev pub ticket_at : List Reply → Ticket → Ticket
ticket_at replies ticket = record ticket { id = id_opened (slice_get replies ticket.id) }

abbrev pub view_at : List Reply → View → View
view_at replies Present = Present
view_at replies (At ticket) = At (ticket_at replies ticket)

-- the call with the ids of the tickets, and with the job, that it names, where the calls before it got these replies
abbrev pub resolved : List Reply → Call → Call
resolved replies (GetAt view id key) = GetAt (view_at replies view) id key
resolved replies (PageAt view id range back max) = PageAt (view_at replies view) id range back max
resolved replies (CloneSnapshot ticket) = CloneSnapshot (ticket_at replies ticket)
resolved replies (CloseSnapshot ticket) = CloseSnapshot (ticket_at replies ticket)
resolved replies (FlushFinish job) = FlushFinish (job_begun (slice_get replies job.number))
resolved replies (MergeFinish job) = MergeFinish (job_begun (slice_get replies job.number))
resolved replies call = call

-- calls of a list that got these replies, behind those that got the first
abbrev pub resolved_behind : List Reply → List Call → List Reply → List Call
resolved_behind before [] replies = []
resolved_behind before (call ∷ calls) [] = call ∷ calls
resolved_behind before (call ∷ calls) (reply ∷ replies) = resolved before call ∷ resolved_behind (before ++ reply ∷ []) calls replies

-- the calls of a list that got these replies, with the ids of the tickets, and with the jobs, that they name
abbrev pub resolved_all : List Call → List Reply → List Call
resolved_all calls replies = resolved_behind [] calls replies
