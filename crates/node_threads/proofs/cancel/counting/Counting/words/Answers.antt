use Rattle.std.proofs.Common.{refl}
use Rattle.node_threads.proofs.cancel.counting.Counting.words.Goals as goal

pub returns-clause-read : goal.returns-clause-read
returns-clause-read c = (
  c.read-spent.result,
  _,
  refl,
  _,
  record {
    read = c.read-spent.ensures.read;
    counted = c.read-spent.ensures.counted;
    again = c.read-spent.ensures.again;
    most = c.read-spent.ensures.most;
  },
  (
    c.read-unknown.result,
    _,
    refl,
    _,
    record {
      read = c.read-unknown.ensures.read;
      counted = c.read-unknown.ensures.counted;
      again = c.read-unknown.ensures.again;
      most = c.read-unknown.ensures.most;
    },
    (
      c.read-no_peer.result,
      _,
      refl,
      _,
      record {
        read = c.read-no_peer.ensures.read;
        counted = c.read-no_peer.ensures.counted;
        again = c.read-no_peer.ensures.again;
        most = c.read-no_peer.ensures.most;
      },
      (
        c.read-no_link.result,
        _,
        refl,
        _,
        record {
          read = c.read-no_link.ensures.read;
          counted = c.read-no_link.ensures.counted;
          again = c.read-no_link.ensures.again;
          most = c.read-no_link.ensures.most;
        },
        (
          c.read-forwarded.result,
          _,
          refl,
          _,
          record {
            read = c.read-forwarded.ensures.read;
            counted = c.read-forwarded.ensures.counted;
            again = c.read-forwarded.ensures.again;
            most = c.read-forwarded.ensures.most;
          },
          (
            c.read-sent.result,
            _,
            refl,
            _,
            record {
              read = c.read-sent.ensures.read;
              counted = c.read-sent.ensures.counted;
              again = c.read-sent.ensures.again;
              most = c.read-sent.ensures.most;
            },
            (
              c.read-ended.result,
              _,
              refl,
              _,
              record {
                read = c.read-ended.ensures.read;
                counted = c.read-ended.ensures.counted;
                again = c.read-ended.ensures.again;
                most = c.read-ended.ensures.most;
              },
              (
                c.read-failed.result,
                _,
                refl,
                _,
                record {
                  read = c.read-failed.ensures.read;
                  counted = c.read-failed.ensures.counted;
                  again = c.read-failed.ensures.again;
                  most = c.read-failed.ensures.most;
                },
                (refl, refl),
              ),
            ),
          ),
        ),
      ),
    ),
  ),
)
