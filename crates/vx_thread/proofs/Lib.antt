mod ThreadFlow
