use Rattle.std.proofs.Common.{◌++◌, codes, decimal, ap, append_assoc, ◌∙◌}
use Rattle.std.proofs.lemmas.Result.{on_err_weaker}
use Rattle.order_grammar.specs.Print.{text_of_round}
use Rattle.order_grammar.proofs.PrefixLemmas.{at_error, two_added}
use Rattle.order_grammar.proofs.print.print_round.Goals as goal

pub returns-in_ok-extend_from_slice-in-Opening-clause-err : goal.returns-in_ok-extend_from_slice-in-Opening-clause-err
returns-in_ok-extend_from_slice-in-Opening-clause-err c =
    on_err_weaker c.print_number.result
    (λ stays. record {
      prefix = codes "PR";
      rest = decimal c.in-Opening.number;
      added =
          stays ∙ c.in_ok-extend_from_slice-in-Opening.ensures.items;
      whole = ap text_of_round c.in-Opening.is;
    })
    c.print_number.ensures.err

pub returns-in_ok-extend_from_slice-in-Stock-clause-err : goal.returns-in_ok-extend_from_slice-in-Stock-clause-err
returns-in_ok-extend_from_slice-in-Stock-clause-err c =
    on_err_weaker c.print_number-in-Stock.result
    (λ stays. record {
      prefix = codes "SR";
      rest = decimal c.in-Stock.number;
      added =
          stays ∙ c.in_ok-extend_from_slice-in-Stock.ensures.items;
      whole = ap text_of_round c.in-Stock.is;
    })
    c.print_number-in-Stock.ensures.err

pub returns-in_err-print_number-in-Operating-clause-err : goal.returns-in_err-print_number-in-Operating-clause-err
returns-in_err-print_number-in-Operating-clause-err c =
    at_error c.from_residual-in_err-print_number-in-Operating.result (record {
      prefix = codes "OR";
      rest = decimal c.in-Operating.set ++ codes "." ++ decimal c.in-Operating.number;
      added = c.in_err-print_number-in-Operating.ensures.err ∙ c.in_ok-extend_from_slice-in-Operating.ensures.items;
      whole = ap text_of_round c.in-Operating.is;
    })

pub returns-in_err-push-in-Operating-clause-err : goal.returns-in_err-push-in-Operating-clause-err
returns-in_err-push-in-Operating-clause-err c =
    at_error c.from_residual-in_err-push-in-Operating.result (record {
      prefix = codes "OR" ++ decimal c.in-Operating.set;
      rest = codes "." ++ decimal c.in-Operating.number;
      added =
          c.in_err-push-in-Operating.ensures.items ∙ c.in_ok-print_number-in-Operating.ensures.ok
          ∙ two_added c.args.text.now.items _ (codes "OR") (decimal c.in-Operating.set)
          c.in_ok-extend_from_slice-in-Operating.ensures.items;
      whole = ap text_of_round c.in-Operating.is ∙ append_assoc (codes "OR" ++ decimal c.in-Operating.set) (codes ".")
          (decimal c.in-Operating.number);
    })

pub returns-in_ok-push-in-Operating-clause-err : goal.returns-in_ok-push-in-Operating-clause-err
returns-in_ok-push-in-Operating-clause-err c =
    on_err_weaker c.print_number-in-Operating-2.result (λ stays. record {
      prefix = codes "OR" ++ decimal c.in-Operating.set ++ codes ".";
      rest = decimal c.in-Operating.number;
      added =
          stays ∙ c.in_ok-push-in-Operating.ensures.items
          ∙ two_added c.args.text.now.items _ (codes "OR" ++ decimal c.in-Operating.set) (codes ".")
          (c.in_ok-print_number-in-Operating.ensures.ok ∙ two_added c.args.text.now.items _ (codes "OR")
          (decimal c.in-Operating.set) c.in_ok-extend_from_slice-in-Operating.ensures.items);
      whole = ap text_of_round c.in-Operating.is;
    }) c.print_number-in-Operating-2.ensures.err
