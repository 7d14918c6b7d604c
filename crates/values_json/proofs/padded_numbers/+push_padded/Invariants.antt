use Rattle.values_json.proofs.padded_numbers.+push_padded.Given as goal

abbrev pub decreases-push_padded : goal.decreases-push_padded
decreases-push_padded l = l.width
