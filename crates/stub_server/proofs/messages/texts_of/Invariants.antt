use Rattle.std.proofs.Common.{◌≡◌, take}
use Rattle.pg_frames.specs.FrameText.{texts}
use Rattle.stub_server.proofs.messages.texts_of.Given as goal

-- the text of the messages so far
abbrev pub invariant-loop-message : goal.invariant-loop-message
invariant-loop-message l = l.out.items ≡ texts (take l.message-index l.messages)
