-- `replies::write_why` meets its contract: whatever the reply is, the line of its closed pairs is put after it. Assumes nothing.
use Rattle.replies.proofs.ReplyLaws.{why-room, why-mesh, why-refusal}
use Rattle.replies.proofs.write_why.Goals as goal

pub put_why-size-requires : goal.put_why-size-requires
put_why-size-requires c =
    why-room c.write_reply.ensures c.requires c.in-Mesh.is

pub put_why-size-requires-in-Refusal : goal.put_why-size-requires-in-Refusal
put_why-size-requires-in-Refusal c =
    why-room c.write_reply.ensures c.requires c.in-Refusal.is

pub returns-in-Mesh : goal.returns-in-Mesh
returns-in-Mesh c =
    why-mesh _ c.write_reply.ensures c.requires c.in-Mesh.is c.put_why-size.ensures

pub returns-in-Refusal : goal.returns-in-Refusal
returns-in-Refusal c =
    why-refusal _ c.write_reply.ensures c.requires c.in-Refusal.is c.put_why-size-in-Refusal.ensures
