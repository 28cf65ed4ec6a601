use Rattle.std.proofs.Common.{◌≡◌, take}
use Rattle.pg_frames.specs.FrameText.{texts as texts_of}
use Rattle.node_threads.proofs.session.admin_replies.texts.Given as goal

-- those of the messages so far
abbrev pub invariant-loop-frame : goal.invariant-loop-frame
invariant-loop-frame l = l.bytes.items ≡ texts_of (take l.frame-index l.fn.frames)
